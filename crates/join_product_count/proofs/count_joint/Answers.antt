use mathlib.Core.Path.{◌≡◌, ◌∙◌, ap₂, sym}
use mathlib.Core.List.{map}
use Prim.Native.Nat.{ℕ, ◌*◌, ◌+◌, ◌-◌, ◌<◌, ◌≤◌}
use native.Mathlib.Nat.{mul-le-mul_left}
use native.Mathlib.Omega.{arith}
use lib.ListN.{drop, length}
use Rattle.automata.specs.Joins.{arc_both, arc_left}
use Rattle.relettering.specs.Relettering.{relettered_arc, with_letters}
use Rattle.format.specs.Decoding.{arc_of, automaton_of}
use Rattle.file_laws.proofs.Laws.{valid-arcs, valid-ranges}
use Rattle.join_parts.specs.OwnNumbers.{by_first}
use Rattle.join_parts.proofs.Laws.{ArcHere, walk_here, walk-on, walk_start}
use Rattle.join_product_count.specs.ProductArcs.{Matches, first_with, joint_with, numbers_by}
use Rattle.join_product_count.proofs.Uncounted.{all-tallied, Uncounted-all, Uncounted-none, Uncounted-one}
use Rattle.join_product_count.proofs.ProductArcLaws.{Wanted, first-empty, first-lettered, joint_next, joint_none, joint_ops, joint_skip, letter_at, ops-at, wanted}
use Rattle.join_product_count.proofs.count_joint.Goals as goal
use Rattle.join_product_count.proofs.count_joint.Goals.{After-loop-i, After-other_letter-own, Else-letter-eq255, In-loop-i, Then-letter-eq255, After-byte, then-own-byte, else-own-byte}

sought : (c : goal.Else-letter-eq255) → Wanted c.requires.counts c.args.first.now c.args.others.now (arc_of (drop c.args.from c.args.first.now)) c.byte-letter.result
sought c = wanted c.requires c.byte-letter.ensures.0 c.if-letter-eq255.false

found : (c : goal.After-other_letter-own) → Matches c.args.b (numbers_by c.args.first.now c.args.others.now) c.byte-letter.result c.other_letter-own.result
found c = let sought' : Wanted c.requires.counts c.args.first.now c.args.others.now (arc_of (drop c.args.from c.args.first.now)) c.byte-letter.result = wanted c.requires c.byte-letter.ensures.0 c.if-letter-eq255.false in
    c.other_letter-own.ensures c.requires.counts c.args.b c.args.second.now c.requires.files (sought').inside

-- the arc of this turn
here : (c : goal.In-loop-i) → ArcHere c.args.b c.args.second.now c.loop-i.at
here c = walk_here c.args.b c.args.second.now c.args.b.arcs c.loop-i._i c.loop-i.at c.loop-i-test.true c.loop-i.invariant.0

pub overflow_add-from : goal.overflow_add-from
overflow_add-from c = omega (arith, c.requires.whole)

pub byte-letter-requires : goal.byte-letter-requires
byte-letter-requires c = omega (arith, c.requires.whole)

pub overflow_add-from-2 : goal.overflow_add-from-2
overflow_add-from-2 c = omega (arith, c.requires.whole)

pub byte-p-requires : goal.byte-p-requires
byte-p-requires c = omega (arith, c.requires.whole)

-- an empty move: it stands beside each state of the second
empties : (c : goal.Then-letter-eq255) → (c.args.b.states ≤ 256) × (c.args.b.states * (4 + 2 * c.byte-p.result) ≤ 131584)
empties c = let few = (valid-ranges _ _ c.requires.files.second).states in
    let ops : 4 + 2 * c.byte-p.result ≤ 514 = omega (arith, c.byte-p.ensures.1) in
    (few, omega (arith, mul-le-mul_left c.args.b.states ops))

pub returns-then-letter-eq255 : goal.returns-then-letter-eq255
returns-then-letter-eq255 c = let x = arc_of (drop c.args.from c.args.first.now) in
    let ops : length x.ops ≡ c.byte-p.result = ops-at c.args.first.now c.args.from ∙ sym c.byte-p.ensures.0 in (
      λ k. rw (first-empty c.args.b.states k (by_first c.args.first.now c.args.others.now c.args.second.now).arcs x _ (letter_at c.args.first.now c.args.from) (sym c.byte-letter.ensures.0 ∙ c.if-letter-eq255.true)) (all-tallied (arc_left c.args.b.states x) c.byte-p.result (λ i. ops) (omega (arith, c.requires.few_ops)) 0 c.args.b.states),
      omega (arith, empties (goal.at.returns-then-letter-eq255 c).Then-letter-eq255),
      omega (arith, empties (goal.at.returns-then-letter-eq255 c).Then-letter-eq255),
    )

pub other_letter-own-requires : goal.other_letter-own-requires
other_letter-own-requires c = (sought c).asked

pub first_arc-at-requires : goal.first_arc-at-requires
first_arc-at-requires c = let r = valid-ranges _ _ c.requires.files.second in
    (r.letters, omega (arith, r.states))

pub loop-i-init : goal.loop-i-init
loop-i-init c = let e : c.args.b.arcs - 0 ≡ c.args.b.arcs = omega arith in
    (rw (e, c.first_arc-at.ensures) (walk_start _ _ c.requires.files.second), λ n k. rw (e, c.first_arc-at.ensures) (Uncounted-all _), omega arith, omega arith)

pub overflow_add-at : goal.overflow_add-at
overflow_add-at c = omega (arith, (here c).whole)

pub byte-requires : goal.byte-requires
byte-requires c = omega (arith, (here c).whole)

pub overflow_add-ops : goal.overflow_add-ops
overflow_add-ops c = omega (arith, c.byte.ensures.1, c.byte-p.ensures.1)

pub overflow_add-at-in-loop-i : goal.overflow_add-at-in-loop-i
overflow_add-at-in-loop-i c = omega (arith, (here (goal.at.overflow_add-at-in-loop-i c).In-loop-i).whole)

pub byte-requires-in-loop-i : goal.byte-requires-in-loop-i
byte-requires-in-loop-i c = omega (arith, (here (goal.at.byte-requires-in-loop-i c).In-loop-i).whole)

-- the numbers of this turn are small
bounds : (c : goal.After-byte) → (c.byte.result < 256) × (c.byte-p.result < 256) × (c.loop-i.arcs ≤ c.loop-i._i) × (c.loop-i.sum ≤ 510 * c.loop-i._i) × (c.loop-i._i < 2048)
bounds c = (c.byte.ensures.1, c.byte-p.ensures.1, c.loop-i.invariant.2, c.loop-i.invariant.3, omega (arith, c.loop-i-test.true, (valid-ranges _ _ c.requires.files.second).arcs))

pub overflow_add-arcs : goal.overflow_add-arcs
overflow_add-arcs c = omega (arith, bounds (goal.at.overflow_add-arcs c).After-byte)

pub overflow_add-sum : goal.overflow_add-sum
overflow_add-sum c = omega (arith, bounds (goal.at.overflow_add-sum c).After-byte)

pub arc_size-at-requires : goal.arc_size-at-requires
arc_size-at-requires c = omega (arith, (here (goal.at.arc_size-at-requires c).In-loop-i).whole)

pub overflow_add-at-in-loop-i-2 : goal.overflow_add-at-in-loop-i-2
overflow_add-at-in-loop-i-2 c = omega (arith, (here (goal.at.overflow_add-at-in-loop-i-2 c).In-loop-i).whole, c.arc_size-at.ensures.0)

pub loop-i-preserved : goal.loop-i-preserved
loop-i-preserved c = let new = numbers_by c.args.first.now c.args.others.now in
    let x = arc_of (drop c.args.from c.args.first.now) in
    let y = relettered_arc new (arc_of (drop c.loop-i.at c.args.second.now)) in
    let letter = (sought (goal.at.loop-i-preserved c).Else-letter-eq255).letter in
    let on = walk-on c.args.b c.args.second.now c.args.b.arcs c.loop-i._i c.loop-i.at c.loop-i-test.true c.loop-i.invariant.0 in
    let b = bounds (goal.at.loop-i-preserved c).After-byte in
    let q : (n k : ℕ) → length (arc_both n k x y).ops ≡ c.byte-p.result + c.byte.result = λ n k. joint_ops n k x y ∙ ap₂ (λ (u v : ℕ). u + v) (ops-at c.args.first.now c.args.from ∙ sym c.byte-p.ensures.0) (ops-at c.args.second.now c.loop-i.at ∙ sym c.byte.ensures.0) in
    elim c.if-own-byte.branch [
      | then-own-byte w ↦ (
        rw c.arc_size-at.ensures.0 on,
        λ n k. rw (w.arcs-is, w.sum-is, w.most-is ∙ w.max-most.ensures, c.arc_size-at.ensures.0) (Uncounted-one c.loop-i.arcs c.loop-i.sum c.loop-i.most (arc_both n k x y) _ _ (q n k) (rw (joint_next n k x letter c.args.second.now new (found (goal.at.loop-i-preserved c).After-other_letter-own) c.args.b.arcs c.loop-i._i c.loop-i.at c.loop-i-test.true (here (goal.at.loop-i-preserved c).In-loop-i) (w.if-own-byte.true ∙ c.byte-in-loop-i.ensures.0)) at (c.loop-i.invariant.1 n k))),
        omega (arith, w.arcs-is, b),
        omega (arith, w.sum-is, b),
      )
      | else-own-byte w ↦ (
        rw c.arc_size-at.ensures.0 on,
        λ n k. rw (w.arcs-is, w.sum-is, w.most-is, c.arc_size-at.ensures.0) (rw (joint_skip n k x letter c.args.second.now new (found (goal.at.loop-i-preserved c).After-other_letter-own) c.args.b.arcs c.loop-i._i c.loop-i.at c.loop-i-test.true (here (goal.at.loop-i-preserved c).In-loop-i) (λ d. w.if-own-byte.false (d ∙ sym c.byte-in-loop-i.ensures.0))) at (c.loop-i.invariant.1 n k)),
        omega (arith, w.arcs-is, b),
        omega (arith, w.sum-is, b),
      )
    ]

-- what is counted is small
small : (c : goal.After-loop-i) → (c.loop-i.arcs ≤ 2048) × (c.loop-i.sum ≤ 1044480)
small c = let many = (valid-ranges _ _ c.requires.files.second).arcs in
    (omega (arith, c.loop-i.auto._i-end, c.loop-i.invariant.2), omega (arith, c.loop-i.auto._i-end, c.loop-i.invariant.3))

pub returns : goal.returns
unfolding with_letters
returns c = let new = numbers_by c.args.first.now c.args.others.now in
    let x = arc_of (drop c.args.from c.args.first.now) in
    let e : (k : ℕ) → first_with c.args.b.states k (map (relettered_arc new) (automaton_of c.args.second.now).arcs) x ≡ joint_with c.args.b.states k (map (relettered_arc new) (automaton_of c.args.second.now).arcs) x = λ k. first-lettered c.args.b.states k (map (relettered_arc new) (automaton_of c.args.second.now).arcs) x _ (letter_at c.args.first.now c.args.from) (λ d. c.if-letter-eq255.false (c.byte-letter.ensures.0 ∙ d)) in (
      λ k. rw (e k, valid-arcs _ _ c.requires.files.second) (Uncounted-none (rw (joint_none c.args.b.states k x new c.args.b c.args.second.now c.args.b.arcs c.loop-i._i c.loop-i.at c.loop-i-test.false) at (c.loop-i.invariant.1 c.args.b.states k))),
      (small c).0,
      omega (arith, small c),
    )

pub overflow_mul-result-then-letter-eq255 : goal.overflow_mul-result-then-letter-eq255
overflow_mul-result-then-letter-eq255 c = omega (arith, empties (goal.at.overflow_mul-result-then-letter-eq255 c).Then-letter-eq255)

pub overflow_mul-result-2 : goal.overflow_mul-result-2
overflow_mul-result-2 c = omega (arith, small c)

pub overflow_mul-result-3 : goal.overflow_mul-result-3
overflow_mul-result-3 c = omega (arith, small c)

pub overflow_add-result-2 : goal.overflow_add-result-2
overflow_add-result-2 c = omega (arith, small c)
