use mathlib.Core.Path.{◌≡◌, ◌∙◌, sym}
use mathlib.Core.List.{◌++◌, map}
use Prim.Native.Nat.{◌+◌, ◌-◌}
use native.Mathlib.Omega.{arith}
use lib.ListN.{drop, get_or}
use Rattle.automata.specs.Joins.{arc_both}
use Rattle.relettering.specs.Relettering.{relettered_arc, with_letters}
use Rattle.file_fields.specs.Parts.{arc_size, first_arc}
use Rattle.format.specs.Decoding.{arc_of, arcs_of}
use Rattle.format.specs.Encoding.{arc_bytes, arcs_bytes}
use Rattle.file_laws.proofs.Laws.{valid-arcs, valid-ranges}
use Rattle.file_writing.proofs.Laws.{Left, left-all, left-fits, left_less, left-none}
use Rattle.join_parts.specs.OwnNumbers.{by_first}
use Rattle.join_parts.proofs.Laws.{ArcHere, walk_here, walk-on, walk_start}
use Rattle.join_product_count.specs.ProductArcs.{Matches, joint_with, numbers_by}
use Rattle.join_product_count.proofs.Laws.{Wanted, joint_next, joint_none, joint_nothing, joint_skip, letter_at, wanted}
use Rattle.join_product_arcs.proofs.joint.write_joint_with.Goals as goal
use Rattle.join_product_arcs.proofs.joint.write_joint_with.Goals.{After-other_letter-own, Else-letter-eq255, In-loop-i, then-own-byte, else-own-byte}

sought : (c : goal.Else-letter-eq255) → Wanted c.requires.0.counts c.args.first.now c.args.others.now (arc_of (drop c.args.from c.args.first.now)) c.byte-letter.result
sought c = wanted c.requires.0 c.byte-letter.ensures.0 c.if-letter-eq255.false

found : (c : goal.After-other_letter-own) → Matches c.args.b (numbers_by c.args.first.now c.args.others.now) c.byte-letter.result c.other_letter-own.result
found c = let sought' : Wanted c.requires.0.counts c.args.first.now c.args.others.now (arc_of (drop c.args.from c.args.first.now)) c.byte-letter.result = wanted c.requires.0 c.byte-letter.ensures.0 c.if-letter-eq255.false in
    c.other_letter-own.ensures c.requires.0.counts c.args.b c.args.second.now c.requires.0.files (sought').inside

-- the arc of this turn
here : (c : goal.In-loop-i) → ArcHere c.args.b c.args.second.now c.loop-i.other
here c = walk_here c.args.b c.args.second.now c.args.b.arcs c.loop-i._i c.loop-i.other c.loop-i-test.true c.loop-i.invariant.0

-- a joint arc is written in this turn
turn : (c : goal.In-loop-i) → c.other_letter-own.result ≡ get_or c.args.second.now (c.loop-i.other + 1) 0 → let x = arc_of (drop c.args.from c.args.first.now) in let new = relettered_arc (numbers_by c.args.first.now c.args.others.now) in let arc = drop c.loop-i.other c.args.second.now in
    Left c.args.at (arcs_bytes (joint_with c.args.b.states c.args.k (map new (arcs_of c.args.b.arcs (drop (first_arc c.args.b) c.args.second.now))) x)) c.args.out.now c.loop-i.to
    (arc_bytes (arc_both c.args.b.states c.args.k x (arc_of arc)) ++ arcs_bytes (joint_with c.args.b.states c.args.k (map new (arcs_of (c.args.b.arcs - (c.loop-i._i + 1)) (drop (c.loop-i.other + arc_size arc) c.args.second.now))) x)) c.loop-i.out
unfolding arcs_bytes
turn c e = let sought' : Wanted c.requires.0.counts c.args.first.now c.args.others.now (arc_of (drop c.args.from c.args.first.now)) c.byte-letter.result = wanted c.requires.0 c.byte-letter.ensures.0 c.if-letter-eq255.false in
    let found' : Matches c.args.b (numbers_by c.args.first.now c.args.others.now) c.byte-letter.result c.other_letter-own.result = c.other_letter-own.ensures c.requires.0.counts c.args.b c.args.second.now c.requires.0.files (sought').inside in
    let here' : ArcHere c.args.b c.args.second.now c.loop-i.other = walk_here c.args.b c.args.second.now c.args.b.arcs c.loop-i._i c.loop-i.other c.loop-i-test.true c.loop-i.invariant.0 in
    let next = joint_next c.args.b.states c.args.k (arc_of (drop c.args.from c.args.first.now)) (sought').letter c.args.second.now (numbers_by c.args.first.now c.args.others.now) (found') c.args.b.arcs c.loop-i._i c.loop-i.other c.loop-i-test.true (here') e in
    rw next at c.loop-i.invariant.1

pub overflow_add-from : goal.overflow_add-from
overflow_add-from c = omega (arith, c.requires.0.whole)

pub byte-letter-requires : goal.byte-letter-requires
byte-letter-requires c = omega (arith, c.requires.0.whole)

pub returns-then-letter-eq255 : goal.returns-then-letter-eq255
unfolding arcs_bytes
returns-then-letter-eq255 c = let none = joint_nothing c.args.b.states c.args.k (by_first c.args.first.now c.args.others.now c.args.second.now).arcs (arc_of (drop c.args.from c.args.first.now)) _ (letter_at c.args.first.now c.args.from) (sym c.byte-letter.ensures.0 ∙ c.if-letter-eq255.true) in
    rw none (left-none (left-all (rw none at c.requires.4)))

pub other_letter-own-requires : goal.other_letter-own-requires
other_letter-own-requires c = (sought c).asked

pub first_arc-other-requires : goal.first_arc-other-requires
first_arc-other-requires c = let r = valid-ranges _ _ c.requires.0.files.second in
    (r.letters, omega (arith, r.states))

pub loop-i-init : goal.loop-i-init
unfolding with_letters
loop-i-init c = let e : c.args.b.arcs - 0 ≡ c.args.b.arcs = omega arith in
    (rw (e, c.first_arc-other.ensures) (walk_start _ _ c.requires.0.files.second), rw (e, c.first_arc-other.ensures) (left-all (rw (valid-arcs _ _ c.requires.0.files.second) at c.requires.4)))

pub overflow_add-other : goal.overflow_add-other
overflow_add-other c = omega (arith, (here c).whole)

pub byte-requires : goal.byte-requires
byte-requires c = omega (arith, (here c).whole)

pub write_joint-to-requires : goal.write_joint-to-requires
write_joint-to-requires c = let h = here (goal.at.write_joint-to-requires c).In-loop-i in
    let room = left-fits (arc_bytes (arc_both c.args.b.states c.args.k (arc_of (drop c.args.from c.args.first.now)) (arc_of (drop c.loop-i.other c.args.second.now)))) _ (turn (goal.at.write_joint-to-requires c).In-loop-i (c.if-own-byte.true ∙ c.byte.ensures.0)) in (
      record {
        first = c.requires.0.whole;
        second = h.whole;
        source = omega (arith, c.requires.1, h.fits.source);
        target = omega (arith, c.requires.2, h.fits.target);
        ops = omega (arith, c.requires.0.few_ops, h.fits.few_ops);
        shift = c.requires.3;
        first_kinds = c.requires.5;
        second_kinds = h.kinds;
      },
      room,
    )

pub arc_size-other-requires : goal.arc_size-other-requires
arc_size-other-requires c = omega (arith, (here (goal.at.arc_size-other-requires c).In-loop-i).whole)

pub overflow_add-other-in-loop-i : goal.overflow_add-other-in-loop-i
overflow_add-other-in-loop-i c = omega (arith, (here (goal.at.overflow_add-other-in-loop-i c).In-loop-i).whole, c.arc_size-other.ensures.0)

pub loop-i-preserved : goal.loop-i-preserved
loop-i-preserved c = let on = walk-on c.args.b c.args.second.now c.args.b.arcs c.loop-i._i c.loop-i.other c.loop-i-test.true c.loop-i.invariant.0 in
    elim c.if-own-byte.branch [
      | then-own-byte w ↦ (
        rw c.arc_size-other.ensures.0 on,
        rw (w.out-is, w.to-is, c.arc_size-other.ensures.0) (left_less _ (turn (goal.at.loop-i-preserved c).In-loop-i (w.if-own-byte.true ∙ c.byte.ensures.0)) w.write_joint-to.ensures),
      )
      | else-own-byte w ↦ (
        rw c.arc_size-other.ensures.0 on,
        rw (w.out-is, w.to-is, c.arc_size-other.ensures.0)
            (rw (joint_skip c.args.b.states c.args.k (arc_of (drop c.args.from c.args.first.now)) (sought (goal.at.loop-i-preserved c).Else-letter-eq255).letter c.args.second.now (numbers_by c.args.first.now c.args.others.now) (found (goal.at.loop-i-preserved c).After-other_letter-own) c.args.b.arcs c.loop-i._i c.loop-i.other c.loop-i-test.true (here (goal.at.loop-i-preserved c).In-loop-i) (λ d. w.if-own-byte.false (d ∙ sym c.byte.ensures.0))) at c.loop-i.invariant.1),
      )
    ]

pub returns : goal.returns
unfolding arcs_bytes with_letters
returns c = rw (valid-arcs _ _ c.requires.0.files.second)
    (left-none (rw (joint_none c.args.b.states c.args.k (arc_of (drop c.args.from c.args.first.now)) (numbers_by c.args.first.now c.args.others.now) c.args.b c.args.second.now c.args.b.arcs c.loop-i._i c.loop-i.other c.loop-i-test.false) at c.loop-i.invariant.1))
