use native.Mathlib.Omega.{arith}
use mathlib.Core.Path.{◌≡◌, sym, ◌∙◌}
use borrow.Author.Rules.{rules}
use Rattle.word_sets.specs.Sets.{in_set}
use Rattle.word_fields.proofs.Laws.{kept_same, kept_then}
use Rattle.word_rows.proofs.Warshall.{Closing-start, Closing-more, Closing-skip, Closing-past, closing_end}
use Rattle.word_rows.proofs.RowLaws.{unit_row}
use Rattle.word_rows.proofs.close_rows.Goals as goal
use Rattle.word_rows.proofs.close_rows.Goals.{then-not-alone, else-not-alone}

pub loop-k-init : goal.loop-k-init
loop-k-init c = (kept_same _ _ _, Closing-past (in_set c.held_twice-inner.result) c.requires.1.1 c.held_twice-inner.ensures c.next_live-k.ensures.none (Closing-start _ _))

pub loop-k-preserved : goal.loop-k-preserved
loop-k-preserved c = elim c.if-not-alone.branch [
  | then-not-alone w ↦ rw w.w-is (
    kept_then c.loop-k.invariant.0 w.through.ensures.kept,
    Closing-past (in_set c.held_twice-inner.result) c.requires.1.1 c.held_twice-inner.ensures c.next_live-k-in-loop-k.ensures.none
        (Closing-more (omega arith) w.through.ensures.set c.loop-k.invariant.1),
  )
  | else-not-alone w ↦ let unit : c.load.result ≡ c.with.result = search rules in rw w.w-is (
    c.loop-k.invariant.0,
    Closing-past (in_set c.held_twice-inner.result) c.requires.1.1 c.held_twice-inner.ensures c.next_live-k-in-loop-k.ensures.none
        (Closing-skip (omega arith)
        (unit_row c.loop-k.w c.args.base c.loop-k.k c.empty.result (sym c.load.ensures ∙ unit) c.with.ensures c.empty.ensures)
        c.loop-k.invariant.1),
  )
]

pub shape_of-w : goal.shape_of-w
shape_of-w c = c.loop-k.invariant.0.long

pub returns : goal.returns
returns c = record { kept = c.loop-k.invariant.0; closed = closing_end (omega arith) c.requires.1.1 c.loop-k.invariant.1 }
