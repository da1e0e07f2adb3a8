-- `compare_search::expand` meets its contract: the steps leave the sets behind each letter, and then the letters are met.
use native.Mathlib.Omega.{arith}
use mathlib.Core.Logic.{inr}
use mathlib.Core.Path.{◌∙◌, ap, refl, subst, sym}
use Prim.Native.Nat.{◌≤◌}
use lib.ListN.{length}
use Rattle.word_fields.proofs.Laws.{kept_then, kept-wider}
use Rattle.word_layout.specs.declared.SetTable.{SetTable}
use Rattle.live_table.specs.SetRows.{left_row, right_row}
use Rattle.live_letters.specs.Meeting.{Table}
use Rattle.live_letters.proofs.Laws.{holds_kept, table_kept}
use Rattle.compare_search.proofs.BlockFrames.{letter-room, ready-kept, room-first, room-second, tabled, two_sets}
use Rattle.compare_search.proofs.ExpandPair.{LettersMet, both-steps, letter-sets}
use Rattle.compare_search.proofs.expand.Goals as goal

pub left-u-requires : goal.left-u-requires
left-u-requires c = (omega (arith, c.requires.i_lt_from.0, c.requires.i_lt_from.1.few), tabled c.requires.ready.long c.pair_table-t.ensures)

pub right-v-requires : goal.right-v-requires
right-v-requires c = (omega (arith, c.requires.i_lt_from.0, c.requires.i_lt_from.1.few), tabled c.requires.ready.long c.pair_table-t.ensures)

pub step-met1-requires : goal.step-met1-requires
step-met1-requires c = (room-first c.requires.ready, c.requires.ready.listed₁)

pub step-met2-requires : goal.step-met2-requires
step-met2-requires c = let r = ready-kept (kept-wider (omega arith) (omega arith) c.step-met1.ensures.kept) c.requires.ready in
    (room-second r, r.listed₂)

pub meet_letters-requires : goal.meet_letters-requires
meet_letters-requires c = let k = both-steps c.step-met1.ensures.kept c.step-met2.ensures.kept in
    let long : 8192 ≤ length c.step-met2.new.w = omega (arith, k.long, c.requires.ready.long) in
    let table = subst (λ (x : SetTable). Table c.args.a x c.step-met2.new.w c.args.from) (sym c.pair_table-t.ensures) (table_kept (tabled c.requires.ready.long refl) k (inr (omega arith)) c.requires.i_lt_from.1) in (
      omega arith,
      (
        omega arith,
        (
          (c.requires.ready.few, (omega (arith, c.requires.i_lt_from.0, c.requires.i_lt_from.1.few), c.requires.i_lt_from.1.few)),
          (((tabled long c.pair_table-t.ensures, two_sets c.pair_table-t.ensures), letter-room long c.pair_table-t.ensures), table.chain),
        ),
      ),
    )

pub returns : goal.returns
returns c = let k = both-steps c.step-met1.ensures.kept c.step-met2.ensures.kept in
    let f = subst (LettersMet c.args.a c.args.i c.args.from c.step-met1.result c.step-met2.result c.step-met2.new.w c.meet_letters.new.w c.meet_letters.result) c.pair_table-t.ensures (c.meet_letters.ensures.kept, (c.meet_letters.ensures.grows, c.meet_letters.ensures.entries refl)) in record {
      kept = kept_then (kept-wider (omega arith) (omega arith) k) (kept-wider (omega arith) (omega arith) f.0);
      grows = f.1.0 c.requires.i_lt_from.0 (table_kept (tabled c.requires.ready.long refl) k (inr (omega arith)) c.requires.i_lt_from.1);
      meets = λ u v es d b h z. f.1.1 u v es d
          (letter-sets c.args.i c.args.from c.step-met1.result c.step-met2.result c.requires.ready
          (c.left-u.ensures ∙ ap (λ (t : SetTable). left_row t c.args.w.now c.args.i) c.pair_table-t.ensures) (c.right-v.ensures ∙ ap (λ (t : SetTable). right_row t c.args.w.now c.args.i) c.pair_table-t.ensures)
          c.step-met1.ensures.kept c.step-met1.ensures.set c.step-met2.ensures.kept c.step-met2.ensures.set u v es d b h z)
          (holds_kept (tabled c.requires.ready.long refl) k (inr (omega arith)) c.requires.i_lt_from.1.few h) z;
    }
