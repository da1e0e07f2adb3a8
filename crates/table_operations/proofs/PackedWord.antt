-- PackedWord: one configuration in one word: packing is injective, and registers are read and written in place.
use mathlib.Core.Path.{◌∙◌, ◌≡◌, ap, ap₂, refl, sym}
use Prim.Native.Nat.{◌%◌, ◌*◌, ◌+◌, ◌-◌, ◌/◌, ◌<◌, ◌^◌, ◌≤◌, suc, zero, ℕ}
use lib.Bits.{and_mask, bit_and}
use lib.ListN.{get_or, length, set}
use lib.Pow.{pow-add, pow_mono, shl_exact, shr-shr}
use mathlib.Core.List.{List, [], ◌∷◌}
use native.Mathlib.Nat.{add-mul-div_left, add-mul-mod_self_left, div-div-eq-div-mul, div-eq_of_lt, div-mul-le_self, div-one, le_of_suc-le-suc, mod-eq_of_lt, mod-le, mod-lt, mul-le-mul_right, mul_left_comm, not-suc-le-zero, zero-add}
use native.Mathlib.Omega.{arith}
use Rattle.automata.specs.Lists.{Each}
use Rattle.table_operations.specs.Packed.{digit, digit_put, pack_contents}

-- ---- one register of a word
pub nib : (n : ℕ) → bit_and n 15 ≡ n % 16
nib n = and_mask n 4

pub shift-exact : (v q : ℕ) → v < 16 → q < 8 → (v * 2 ^ (4 * q)) % 2 ^ 64 ≡ v * 2 ^ (4 * q)
shift-exact v q h k = shl_exact 4 (4 * q) 64 h (omega arith)

pub digit_lt : (w q : ℕ) → digit w q < 16
digit_lt w q = mod-lt (w / 2 ^ (4 * q)) (omega arith)

pub digit-le : (w q : ℕ) → digit w q * 2 ^ (4 * q) ≤ w
digit-le w q =
    let a : digit w q * 2 ^ (4 * q) ≤ w / 2 ^ (4 * q) * 2 ^ (4 * q) = mul-le-mul_right (2 ^ (4 * q)) (mod-le (w / 2 ^ (4 * q)) 16) in
    let b = div-mul-le_self w (2 ^ (4 * q)) in
    omega arith

-- the register above the lowest is a register of what is above it
digit-suc : (w q : ℕ) → digit w (suc q) ≡ digit (w / 16) q
digit-suc w q = let e : 4 * suc q ≡ 4 + 4 * q = omega arith in ap (λ (n : ℕ). w / 2 ^ n % 16) e ∙ ap (λ (n : ℕ). n % 16) (sym (shr-shr w 4 (4 * q)))

pub next_power : (k : ℕ) → 2 ^ (4 * suc k) ≡ 16 * 2 ^ (4 * k)
next_power k = let e : 4 * suc k ≡ 4 + 4 * k = omega arith in rw (e, pow-add 2 4 (4 * k))

put-suc : (w q v : ℕ) → digit_put w (suc q) v ≡ 16 * digit_put (w / 16) q v + w % 16
put-suc w q v =
    let d = digit (w / 16) q in
    rw (digit-suc w q, next_power q, mul_left_comm d 16 (2 ^ (4 * q)), mul_left_comm v 16 (2 ^ (4 * q))) (omega (arith, digit-le (w / 16) q))

-- contents of m registers stay such
pub put-lt : (m w q v : ℕ) → w < 2 ^ (4 * m) → v < 16 → q < m → digit_put w q v < 2 ^ (4 * m)
put-lt zero w q v f h g = absurd (omega arith)
put-lt (suc m) w zero v f h g = omega (arith, next_power m)
put-lt (suc m) w (suc q) v f h g = omega (arith, next_power m, put-suc w q v, put-lt m (w / 16) q v (omega (arith, next_power m)) h (omega arith))

-- ---- the contents of all registers
abbrev pub Small : List ℕ → Type 0
Small l = Each (λ x. x < 16) l

pub pack_contents-lt : (l : List ℕ) → Small l → pack_contents l < 2 ^ (4 * length l)
unfolding pack_contents
pack_contents-lt [] s = omega arith
pack_contents-lt (x ∷ l) s = rw next_power (omega (arith, s.0, pack_contents-lt l s.1))

pub pack_contents-word : (l : List ℕ) → Small l → length l ≤ 8 → pack_contents l < 2 ^ 32
pack_contents-word l s h =
    let a = pack_contents-lt l s in
    let b : 2 ^ (4 * length l) ≤ 2 ^ 32 = pow_mono {i = 4 * length l} {j = 32} (omega arith) in
    omega arith

pub pack_contents-inj : (u v : List ℕ) → length u ≡ length v → Small u → Small v → pack_contents u ≡ pack_contents v → u ≡ v
unfolding pack_contents
pack_contents-inj [] [] n s t e = refl
pack_contents-inj [] (y ∷ v) n s t e = absurd (omega arith)
pack_contents-inj (x ∷ u) [] n s t e = absurd (omega arith)
pack_contents-inj (x ∷ u) (y ∷ v) n s t e =
    let a : x ≡ y = omega (arith, s.0, t.0) in
    ap₂ (λ (z : ℕ) (l : List ℕ). z ∷ l) a (pack_contents-inj u v (omega arith) s.1 t.1 (omega (arith, s.0, t.0)))

-- reading a register
pub pack_contents-digit : (l : List ℕ) (q : ℕ) → Small l → q < length l → digit (pack_contents l) q ≡ get_or l q 0
unfolding pack_contents
pack_contents-digit [] q s h = absurd (not-suc-le-zero h)
pack_contents-digit (x ∷ l) zero s h = rw (div-one, add-mul-mod_self_left x 16 (pack_contents l)) (mod-eq_of_lt s.0)
pack_contents-digit (x ∷ l) (suc q) s h =
    let z : 0 < 16 = omega arith in
    rw (next_power q, ← div-div-eq-div-mul (x + 16 * pack_contents l) 16 (2 ^ (4 * q)), add-mul-div_left x (pack_contents l) {y = 16} z, div-eq_of_lt {n = x} {m = 16} s.0, zero-add)
    (pack_contents-digit l q s.1 (le_of_suc-le-suc h))

-- writing a register
pub pack_contents-set : (l : List ℕ) (q v : ℕ) → q < length l → pack_contents (set l q v) + get_or l q 0 * 2 ^ (4 * q) ≡ pack_contents l + v * 2 ^ (4 * q)
unfolding pack_contents
pack_contents-set [] q v h = absurd (not-suc-le-zero h)
pack_contents-set (x ∷ l) zero v h = omega arith
pack_contents-set (x ∷ l) (suc q) v h =
    rw (next_power q, mul_left_comm (get_or l q 0) 16 (2 ^ (4 * q)), mul_left_comm v 16 (2 ^ (4 * q)))
    (omega (arith, pack_contents-set l q v (le_of_suc-le-suc h)))

pub digit_set : (l : List ℕ) (q v : ℕ) → Small l → q < length l → digit_put (pack_contents l) q v ≡ pack_contents (set l q v)
digit_set l q v s h = rw (pack_contents-digit l q s h) (by_sum (pack_contents (set l q v)) (get_or l q 0 * 2 ^ (4 * q)) (pack_contents l) (v * 2 ^ (4 * q)) (pack_contents-set l q v h) (rw (← pack_contents-digit l q s h) (digit-le (pack_contents l) q)))
  where
    by_sum : (a b c d : ℕ) → a + b ≡ c + d → b ≤ c → c - b + d ≡ a
    by_sum a b c d e f = omega arith

pub small-set : (l : List ℕ) (q v : ℕ) → Small l → v < 16 → Small (set l q v)
small-set [] q v s h = tt
small-set (x ∷ l) zero v s h = (h, s.1)
small-set (x ∷ l) (suc q) v s h = (s.0, small-set l q v s.1 h)
