-- `compare::deciding::decide` meets its contract: each way out is an answer of the table that searching leaves (DecidingLaws).
use Rattle.std.proofs.Common.{Option, Some, None, ℕ}
use mathlib.Core.Path.{◌≡◌, refl, subst, sym}
use Prim.Native.Nat.{◌<◌}
use native.Mathlib.Omega.{arith}
use lib.ListN.{length}
use Rattle.automata.specs.Pairs.{same_pair}
use Rattle.automata.specs.Search.{entries}
use Rattle.word_layout.specs.Layout.{Tabled, pair_table}
use Rattle.word_layout.specs.declared.SetTable.{SetTable}
use Rattle.live_table.specs.Entries.{Side, along, begin, side_of}
use Rattle.live_letters.specs.Meeting.{Grows, Outcome, Table}
use Rattle.compare_search.specs.Searching.{Both}
use Rattle.compare_search.proofs.Laws.{tabled}
use Rattle.compare.proofs.DecidingLaws.{answer-different, answer-many, answer-same, outcome}
use Rattle.compare.proofs.deciding.decide.Goals as goal
use Rattle.compare.proofs.deciding.decide.Goals.{After-explore_pairs, After-pair_table-t, In-Some-first_difference}

-- what searching answers, of any two sides, in the table of pairs
met : (x : goal.After-explore_pairs) (r : Option ℕ) (tab : SetTable) → x.explore_pairs.result ≡ r → tab ≡ pair_table → (s t : Side) → Both (length x.args.letters.now) s t x.args.w.now x.args.one.block x.args.two.block
    → Outcome 512 tab s t x.explore_pairs.new.w (entries same_pair (along s t) (length x.args.letters.now) (begin s t) 512) r
met x r tab e f = λ s t b. subst (λ (tab : SetTable). Outcome 512 tab s t x.explore_pairs.new.w (entries same_pair (along s t) (length x.args.letters.now) (begin s t) 512) r) (sym f)
    (subst (λ (r : Option ℕ). Outcome 512 pair_table s t x.explore_pairs.new.w (entries same_pair (along s t) (length x.args.letters.now) (begin s t) 512) r) e (x.explore_pairs.ensures.meets s t b))

-- the table of n pairs that it leaves
pairs-stand : (z : goal.After-pair_table-t) → Table (length z.args.letters.now) z.pair_table-t.result z.explore_pairs.new.w z.in-Some.n
pairs-stand z = subst (λ (tab : SetTable). Table (length z.args.letters.now) tab z.explore_pairs.new.w z.in-Some.n) (sym z.pair_table-t.ensures)
    (subst (λ (r : Option ℕ). Grows (length z.args.letters.now) pair_table z.explore_pairs.new.w 1 r) z.in-Some.is z.explore_pairs.ensures.grows).1

stands : (z : goal.After-pair_table-t) → Tabled z.explore_pairs.new.w z.pair_table-t.result
stands z = tabled (omega (arith, z.explore_pairs.ensures.kept.long, z.requires.0.long)) z.pair_table-t.ensures

low : (y : goal.In-Some-first_difference) → y.in-Some-first_difference.i < y.in-Some.n
low y = y.in-Some-first_difference.ensures.0

pub explore_pairs-requires : goal.explore_pairs-requires
explore_pairs-requires c = c.requires.0

pub returns-in_default : goal.returns-in_default
returns-in_default c = record { same = c.explore_pairs.ensures.kept.long; answers = λ u v k. rw c.of_call.ensures (answer-many 512 k c.args.word.now (outcome 512 k pair_table c.explore_pairs.new.w None (met (goal.at.returns-in_default c).After-explore_pairs None pair_table c.in_default.is refl))) }

pub first_difference-requires : goal.first_difference-requires
first_difference-requires c = ((pairs-stand c).few, stands c)

pub returns-in_default-first_difference : goal.returns-in_default-first_difference
returns-in_default-first_difference c = record {
  same = c.explore_pairs.ensures.kept.long;
  answers = λ u v k. let h = outcome 512 k c.pair_table-t.result c.explore_pairs.new.w (Some c.in-Some.n) (met (goal.at.returns-in_default-first_difference c).After-explore_pairs (Some c.in-Some.n) c.pair_table-t.result c.in-Some.is c.pair_table-t.ensures) in
      answer-same 512 k h (pairs-stand (goal.at.returns-in_default-first_difference c).After-pair_table-t).few c.args.word.now (c.in_default-first_difference.ensures (side_of u 256) (side_of v 256) _ h);
}

pub judge_pair-taker-requires : goal.judge_pair-taker-requires
judge_pair-taker-requires c = (omega (arith, (pairs-stand (goal.at.judge_pair-taker-requires c).After-pair_table-t).few, low c), stands (goal.at.judge_pair-taker-requires c).After-pair_table-t)

pub put_word-length-requires : goal.put_word-length-requires
put_word-length-requires c = let t = pairs-stand (goal.at.put_word-length-requires c).After-pair_table-t in record { climb = record { long = omega (arith, (stands (goal.at.put_word-length-requires c).After-pair_table-t).long); most = t.few; low = low (goal.at.put_word-length-requires c).In-Some-first_difference; tree = t.tree }; a_in_bounds = (omega arith, c.requires.1) }

pub returns : goal.returns
returns c = record {
  same = c.explore_pairs.ensures.kept.long;
  answers = λ u v k. let h = outcome 512 k c.pair_table-t.result c.explore_pairs.new.w (Some c.in-Some.n) (met (goal.at.returns c).After-explore_pairs (Some c.in-Some.n) c.pair_table-t.result c.in-Some.is c.pair_table-t.ensures) in
      answer-different 512 k h (pairs-stand (goal.at.returns c).After-pair_table-t).few c.in-Some-first_difference.i (c.in-Some-first_difference.ensures.1 (side_of u 256) (side_of v 256) _ h) (length c.args.letters.now)
      c.args.word.now c.put_word-length.new.out c.judge_pair-taker.result c.put_word-length.result (low (goal.at.returns c).In-Some-first_difference) (pairs-stand (goal.at.returns c).After-pair_table-t).tree c.judge_pair-taker.ensures c.put_word-length.ensures.long c.put_word-length.ensures.put;
}
