use mathlib.Core.Path.{◌∙◌, ◌≡◌}
use Prim.Native.Nat.{◌+◌, ◌≤◌}
use native.Mathlib.Omega.{arith}
use lib.ListN.{drop, get_or, length, length-set}
use Rattle.relettering.specs.Relettering.{letter_by}
use Rattle.file_fields.specs.Parts.{arc_size}
use Rattle.join_parts.proofs.InPlace.{arc-same, arc-whole, arcs-all, arcs-done, arcs-less}
use Rattle.join_parts.proofs.letters.reletter_arcs.Goals as goal
use Rattle.join_parts.proofs.letters.reletter_arcs.Goals.{After-arc_size-from, After-new_letter-letter, In-loop-i}

-- the arc of this turn stands there whole
here : (c : goal.In-loop-i) → c.loop-i.from + arc_size (drop c.loop-i.from c.loop-i.out) ≤ length c.loop-i.out
here c = arc-whole c.args.new.now c.args.at c.args.count c.args.out.now c.loop-i.from c.loop-i._i c.loop-i.out c.loop-i.invariant c.loop-i-test.true

-- the new number of its letter
number : (c : goal.After-new_letter-letter) → c.new_letter-letter.result ≡ letter_by c.args.new.now (get_or c.loop-i.out (c.loop-i.from + 1) 0)
number c = rw (← c.byte.ensures.0) c.new_letter-letter.ensures.0

pub loop-i-init : goal.loop-i-init
loop-i-init c = arcs-all c.args.new.now c.args.at c.args.count c.args.out.now c.requires

pub byte-requires : goal.byte-requires
byte-requires c = omega (arith, here c)

pub overflow_cast-out : goal.overflow_cast-out
overflow_cast-out c = omega (arith, c.new_letter-letter.ensures.1 c.byte.ensures.1)

pub bounds-out-from : goal.bounds-out-from
bounds-out-from c = omega (arith, here (goal.at.bounds-out-from c).In-loop-i)

pub arc_size-from-requires : goal.arc_size-from-requires
arc_size-from-requires c = simp length-set (omega (arith, here (goal.at.arc_size-from-requires c).In-loop-i))

-- the arc takes as many bytes as before
size : (c : goal.After-arc_size-from) → c.arc_size-from.result ≡ arc_size (drop c.loop-i.from c.loop-i.out)
size c = let number' : c.new_letter-letter.result ≡ letter_by c.args.new.now (get_or c.loop-i.out (c.loop-i.from + 1) 0) = rw (← c.byte.ensures.0) c.new_letter-letter.ensures.0 in
    rw (number') at c.arc_size-from.ensures.0 ∙ arc-same c.args.new.now c.args.at c.args.count c.args.out.now c.loop-i.from c.loop-i._i c.loop-i.out c.loop-i.invariant

pub overflow_add-from-in-loop-i : goal.overflow_add-from-in-loop-i
overflow_add-from-in-loop-i c = omega (arith, here (goal.at.overflow_add-from-in-loop-i c).In-loop-i, size c)

pub loop-i-preserved : goal.loop-i-preserved
loop-i-preserved c = rw (size c, number (goal.at.loop-i-preserved c).After-new_letter-letter) (arcs-less c.args.new.now c.args.at c.args.count c.args.out.now c.loop-i.from c.loop-i._i c.loop-i.out c.loop-i.invariant c.loop-i-test.true)

pub returns : goal.returns
returns c = let whole = arcs-done c.args.new.now c.args.at c.args.count c.args.out.now c.loop-i.from c.loop-i._i c.loop-i.out c.loop-i.invariant c.loop-i-test.false in record { place = whole.0; output = whole.1 }

pub overflow_add-from : goal.overflow_add-from
overflow_add-from c = omega (arith, here c)

pub overflow_add-out : goal.overflow_add-out
overflow_add-out c = omega (arith, here (goal.at.overflow_add-out c).In-loop-i)
