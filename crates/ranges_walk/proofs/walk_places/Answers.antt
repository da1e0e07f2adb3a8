use Rattle.std.proofs.Common.{Option, Some}
use native.Mathlib.Omega.{arith}
use mathlib.Core.List.{List}
use mathlib.Core.Path.{◌≡◌, ◌∙◌, subst}
use Prim.Native.Nat.{ℕ, ◌+◌, ◌≤◌}
use Rattle.ranges_walk.specs.Walking.{Chained}
use Rattle.ranges_walk.proofs.PlacesWalk.{Place, passed-more, passed_over, passed-place, passed_start, walk_end}
use Rattle.ranges_walk.proofs.walk_places.Goals as goal
use Rattle.ranges_walk.proofs.walk_places.Goals.{In-loop-i}

pub loop-i-init : goal.loop-i-init
loop-i-init c = passed_start c.requires.0 c.requires.1

-- the place that a turn walks
place : (i : goal.In-loop-i) → Place i.args.c.letters i.args.places.now i.loop-i.i
place i = passed-place i.loop-i.invariant i.loop-i-test.true

pub bounds-places-i-in-loop-i : goal.bounds-places-i-in-loop-i
bounds-places-i-in-loop-i c = omega (arith, (place (goal.at.bounds-places-i-in-loop-i c).In-loop-i).whole)

pub behind_place-requires : goal.behind_place-requires
behind_place-requires c = (c.loop-i.invariant.ready, ((place (goal.at.behind_place-requires c).In-loop-i).letter, c.loop-i.invariant.few))

pub returns-in_err-n : goal.returns-in_err-n
returns-in_err-n c = rw c.from_residual.ensures (record { same = c.behind_place.ensures.kept.long ∙ c.loop-i.invariant.long; walked = passed_over c.behind_place.new.w c.behind_place.result c.loop-i.invariant c.loop-i-test.true c.behind_place.ensures.meets c.in_err-n.was })

-- at most 512 live sets stand behind the place
few-behind : (w : List ℕ) {r : Option ℕ} {k : ℕ} → r ≡ Some k → Chained w r → k ≤ 512
few-behind w e h = (subst (λ (r : Option ℕ). Chained w r) e h).0

pub copy_rows-requires : goal.copy_rows-requires
copy_rows-requires c = (few-behind c.behind_place.new.w c.in_ok-n.was c.behind_place.ensures.chained, omega (arith, c.loop-i.invariant.ready.enough, c.behind_place.ensures.kept.long))

pub overflow_add-i-in-loop-i : goal.overflow_add-i-in-loop-i
overflow_add-i-in-loop-i c = omega (arith, (place (goal.at.overflow_add-i-in-loop-i c).In-loop-i).whole)

pub loop-i-preserved : goal.loop-i-preserved
loop-i-preserved c = passed-more c.behind_place.new.w c.behind_place.result c.loop-i.invariant c.loop-i-test.true c.behind_place.ensures.meets c.in_ok-n.was c.behind_place.ensures.kept (few-behind c.behind_place.new.w c.in_ok-n.was c.behind_place.ensures.chained) c.copy_rows.ensures.kept c.copy_rows.ensures.rows

pub shape_of-w : goal.shape_of-w
shape_of-w c = c.loop-i.invariant.long

pub returns : goal.returns
returns c = record { same = c.loop-i.invariant.long; walked = λ S h. walk_end c.args.file.now c.args.places.now c.loop-i.i c.loop-i-test.false c.loop-i.invariant.few (c.loop-i.invariant.walks S h) }

pub overflow_cast-places : goal.overflow_cast-places
overflow_cast-places c = omega (arith, c.shared_slice_known-in-loop-i-1.given c.loop-i.i)

pub overflow_cast-places-in-loop-i : goal.overflow_cast-places-in-loop-i
overflow_cast-places-in-loop-i c = omega (arith, c.shared_slice_known-in-loop-i-2-1.given (c.loop-i.i + 1))
