-- `live_search::explore_from` meets its contract. The loop's invariant: the sets below i are expanded (Walked of crate live_letters).
use Prim.Native.Nat.{◌+◌, ◌-◌}
use Rattle.live_letters.proofs.Laws.{Walked}
use Rattle.live_search.specs.Exploring.{Twins}
use Rattle.live_search.proofs.explore_from.Given as goal

abbrev pub invariant-loop-i : goal.invariant-loop-i
invariant-loop-i l = Walked (λ x y. Twins l.file l.c l.initial.w l.block x y) l.t l.t.rows (l.acc + 256) l.c.letters l.initial.w l.w l.n l.i

abbrev pub decreases-loop-i : goal.decreases-loop-i
decreases-loop-i l = 512 - l.i
