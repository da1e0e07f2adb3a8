-- Whether two bytes are an operation: the test itself, of the bytes that were read; of two bytes 00 what is left of it.
use native.Mathlib.Omega.{arith}
use mathlib.Core.Path.{◌≡◌, ap, refl, sym}
use mathlib.Core.Logic.{◌≢◌}
use mathlib.Core.Bool.{Bool, true, false, not, ◌&&◌, ◌||◌, and-true}
use Prim.Native.Nat.{ℕ, ◌+◌, ◌/◌, ◌%◌}
use borrow.Author.Tests.{eqb-true}
use lib.Dec.{eqb, leb, ltb}
use lib.ListN.{get_or}
use Rattle.file_arcs.proofs.is_operation.Goals as goal

pub returns-then-x-symbol-eq0 : goal.returns-then-x-symbol-eq0
returns-then-x-symbol-eq0 c letter = let x : get_or c.args.s.now c.args.at 0 ≡ 0 = omega (arith, c.byte-x.ensures.0) in
    let y : get_or c.args.s.now (c.args.at + 1) 0 ≡ 0 = omega (arith, c.byte-symbol.ensures.0) in
    rw (x, y) (sym (and-true (ltb 0 c.args.c.registers && ltb 0 c.args.c.symbols)))

-- of bytes that are not both 00, at register 0 none is the read of 0
elsewhere : (x y : ℕ) → x + y ≢ 0 → not (eqb (x % 16) 0) ≡ (not (eqb (x % 16) 0) || (eqb (x / 16) 0 && eqb y 0))
elsewhere x y n = go (eqb (x % 16) 0) refl (eqb (x / 16) 0) refl (eqb y 0) refl
  where
    go : (r : Bool) → eqb (x % 16) 0 ≡ r → (k : Bool) → eqb (x / 16) 0 ≡ k → (z : Bool) → eqb y 0 ≡ z → not r ≡ (not r || (k && z))
    go false e k f z g = refl
    go true e false f z g = refl
    go true e true f false g = refl
    go true e true f true g = absurd (n (omega (arith, eqb-true (x % 16) 0 e, eqb-true (x / 16) 0 f, eqb-true y 0 g)))

pub returns : goal.returns
returns c letter = rw (← c.byte-x.ensures.0, ← c.byte-symbol.ensures.0, c.operation_kind-kind.ensures, c.operation_register-register.ensures)
    (ap (λ t. leb (c.byte-x.result / 16) 1 && ltb (c.byte-x.result % 16) c.args.c.registers && ltb c.byte-symbol.result c.args.c.symbols && t) (elsewhere c.byte-x.result c.byte-symbol.result c.if-x-symbol-eq0.false))
