-- `live_table::add_row` meets its contract: the rows, the parents and the chains lie apart.
use native.Mathlib.Omega.{arith}
use Rattle.std.proofs.Common.{◌≡◌, ◌∙◌, ◌+◌, ◌-◌, ◌*◌, ℕ, [], ap, below_more, get_or, sym}
use Rattle.word_fields.proofs.Laws.{kept_then, kept-wider}
use Rattle.word_rows.specs.Rows.{row}
use Rattle.word_rows.proofs.Laws.{row_below}
use Rattle.live_table.specs.SetRows.{first_set, key_of}
use Rattle.live_table.proofs.AddRow.{added}
use Rattle.live_table.proofs.add_row.Goals as goal

pub loop-k-preserved : goal.loop-k-preserved
loop-k-preserved g c =
    let many : g.row.SETS ≡ c.args.t.sets = omega (arith, c.requires.sets) in
    let e : g.row.SETS * c.args.n ≡ c.args.t.sets * c.args.n = ap (λ (s : ℕ). s * c.args.n) many in
    let at : c.args.t.sets * c.args.n + c.loop-k.k ≡ g.row.SETS * c.args.n + c.loop-k.k = omega arith in (
      kept_then (kept-wider (omega arith) (omega arith) c.loop-k.invariant.0) (kept-wider (omega arith) (omega arith) c.store.ensures.kept),
      below_more _ _ (λ j h. row_below c.args.t.rows (c.args.t.sets * c.args.n + j) c.store.ensures.kept (omega arith) ∙ c.loop-k.invariant.1 j h) (ap (row c.store.new.w c.args.t.rows) at ∙ c.store.ensures.set),
    )

pub returns : goal.returns
returns g c =
    let all : c.loop-k.k ≡ c.args.t.sets = omega (arith, c.loop-k-test.false, c.loop-k.auto, c.requires) in
    added c.args.sets c.args.n c.args.from c.requires.n_bound.0 c.requires.tabled.0 (omega (arith, c.well_formed.1.1.1.0.1.0.1, c.requires.sets)) (rw all at c.loop-k.invariant.0) (rw all at c.loop-k.invariant.1)
    c.put16.ensures.kept c.put16.ensures.set (c.key_of.ensures.0 ∙ ap (λ (m : ℕ). key_of (first_set c.args.sets) (get_or c.args.sets (m - 1) [])) (sym c.well_formed.1.1.1.0.1.0.1)) c.key_of.ensures.1 c.push.ensures.kept c.push.ensures.chain c.requires.tabled.1
