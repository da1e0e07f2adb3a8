-- `table_operations::operations::operate` meets its contract: the register is taken out of its four bits and put there.
use borrow.Author.Tests.{eq-eqb, ne_eqb}
use native.Mathlib.Omega.{arith}
use mathlib.Core.Path.{◌≡◌, ap, sym, ◌∙◌}
use Prim.Native.Nat.{ℕ, ◌+◌, ◌-◌, ◌*◌, ◌/◌, ◌%◌, ◌^◌, ◌<◌}
use lib.Bits.{bit_and}
use Rattle.table_operations.specs.Packed.{act_packed, digit, digit_put}
use Rattle.std.specs.Prelude.{Some}
use Rattle.table_operations.proofs.PackedWord.{nib, shift-exact, digit_lt, digit-le, put-lt}
use Rattle.table_operations.proofs.operations.operate.Goals as goal

-- the shifts lose nothing
module _ (w q y : ℕ) (h : q < 8) (k : y < 16) where
  taken : bit_and (w / 2 ^ (4 * q)) 15 * 2 ^ (4 * q) % 2 ^ 64 ≡ digit w q * 2 ^ (4 * q)
  taken = rw (nib (w / 2 ^ (4 * q))) (shift-exact (digit w q) q (digit_lt w q) h)

  put : w - bit_and (w / 2 ^ (4 * q)) 15 * 2 ^ (4 * q) % 2 ^ 64 + y * 2 ^ (4 * q) % 2 ^ 64 ≡ digit_put w q y
  put = rw (taken, shift-exact y q k h)

pub returns-then-old-y : goal.returns-then-old-y
unfolding act_packed
returns-then-old-y c =
    let a = c.args in
    let r = c.operation_register-s in
    (rw (eq-eqb (a.x / 16) 0 (sym c.operation_kind.ensures ∙ c.if-operation_kind-eq0.true), ← r.ensures, ne_eqb (digit a.regs r.result) a.y (rw (nib (a.regs / 2 ^ (4 * r.result))) at c.if-old-y.true)), tt)

pub returns-then-operation_kind-eq0 : goal.returns-then-operation_kind-eq0
unfolding act_packed
returns-then-operation_kind-eq0 c =
    let a = c.args in
    let r = c.operation_register-s in
    (rw (eq-eqb (a.x / 16) 0 (sym c.operation_kind.ensures ∙ c.if-operation_kind-eq0.true), ← r.ensures, eq-eqb (digit a.regs r.result) a.y (rw (nib (a.regs / 2 ^ (4 * r.result))) at c.if-old-y.false)), omega arith)

pub overflow_sub-result : goal.overflow_sub-result
overflow_sub-result c =
    let a = c.args in
    let r = c.operation_register-s in
    rw (taken a.regs r.result a.y (omega arith) (omega arith)) (digit-le a.regs r.result)

pub overflow_add-result : goal.overflow_add-result
overflow_add-result c =
    let a = c.args in
    let r = c.operation_register-s in
    rw (put a.regs r.result a.y (omega arith) (omega arith)) (omega (arith, put-lt 8 a.regs r.result a.y (omega arith) (omega arith) (omega arith)))

pub returns : goal.returns
unfolding act_packed
returns c =
    let a = c.args in
    let r = c.operation_register-s in
    let e = put a.regs r.result a.y (omega arith) (omega arith) in
    let writes : act_packed a.x a.y a.regs ≡ Some (digit_put a.regs r.result a.y) = rw (ne_eqb (a.x / 16) 0 (λ z. c.if-operation_kind-eq0.false (c.operation_kind.ensures ∙ z)), ← r.ensures) in (
      sym (writes ∙ sym (ap Some e)),
      omega (arith, e, put-lt 8 a.regs r.result a.y (omega arith) (omega arith) (omega arith)),
    )
