-- `compare_search::explore_from` meets its contract. The loop's invariant: the pairs below i are expanded (Walked of crate live_letters).
use Prim.Native.Nat.{◌-◌}
use Rattle.word_layout.specs.Layout.{first_block, pair_table}
use Rattle.live_letters.proofs.Laws.{Walked}
use Rattle.compare_search.specs.Searching.{Both}
use Rattle.compare_search.proofs.explore_from.Given as goal

abbrev pub invariant-loop-i : goal.invariant-loop-i
invariant-loop-i l = Walked (λ s t. Both l.a s t l.initial.w l.one l.two) pair_table 0 first_block l.a l.initial.w l.w l.n l.i

abbrev pub decreases-loop-i : goal.decreases-loop-i
decreases-loop-i l = 512 - l.i
