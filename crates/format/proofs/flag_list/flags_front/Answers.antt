use mathlib.Core.Path.{◌≡◌, ap, sym, ◌∙◌}
use native.Mathlib.Omega.{arith}
use mathlib.Core.Bool.{cond}
use Prim.Native.Nat.{ℕ, suc, ◌+◌}
use native.Mathlib.Nat.{zero-add}
use native.Mathlib.Numerals.{add-one}
use borrow.Author.Tests.{le-leb, lt-leb}
use lib.Dec.{leb}
use lib.ListN.{get_or, drop}
use Rattle.file_fields.specs.Parts.{flags_front}
use Rattle.file_fields.proofs.Laws.{flags-at, flags-end}
use Rattle.format.proofs.flag_list.flags_front.Goals as goal
use Rattle.format.proofs.flag_list.flags_front.Goals.{In-loop-i}

-- the byte that this turn looks at
abbrev byte_at : goal.In-loop-i → ℕ
byte_at c = get_or c.args.s.now c.loop-i.i 0

-- what this turn decides
turn : (c : goal.In-loop-i) → flags_front c.args.s.now ≡ c.loop-i.i + cond (leb (get_or c.args.s.now c.loop-i.i 0) 1) (suc (flags_front (drop (suc c.loop-i.i) c.args.s.now))) 0
turn c = c.loop-i.invariant ∙ ap (λ n. c.loop-i.i + n) (flags-at c.args.s.now c.loop-i.i (omega arith))

pub loop-i-init : goal.loop-i-init
loop-i-init c = rw zero-add

pub returns-then-flag-gt1 : goal.returns-then-flag-gt1
returns-then-flag-gt1 c = sym (turn (goal.at.returns-then-flag-gt1 c).In-loop-i ∙ rw (lt-leb (byte_at (goal.at.returns-then-flag-gt1 c).In-loop-i) 1 (omega arith)) (omega arith))

pub loop-i-preserved : goal.loop-i-preserved
loop-i-preserved c = turn (goal.at.loop-i-preserved c).In-loop-i ∙ rw (le-leb (byte_at (goal.at.loop-i-preserved c).In-loop-i) 1 (omega arith), add-one) (omega arith)

pub returns : goal.returns
returns c = let e = flags-end c.args.s.now c.loop-i.i (omega arith) in
    omega (arith, c.loop-i.invariant)
