-- Powers: how many words of one length there are.
use Rattle.std.proofs.Common.{◌≡◌, ◌≢◌, ◌*◌, ◌+◌, ◌<◌, ◌^◌, ◌≤◌, ℕ, add-one, ap, arith}
use native.Mathlib.Nat.{mul-zero, pow-le-pow_right, pow-suc}

-- one letter more is too many, and so is every greater length
pub power_over : (most a i size : ℕ) {total : ℕ} → most < total * a → total ≡ a ^ i → i < size → most < a ^ size
power_over most a i size {total} over e l =
    let z : a ≢ 0 = λ (z : a ≡ 0). omega (arith, ap (λ (n : ℕ). total * n) z, mul-zero total) in
    let more : a ^ (i + 1) ≤ a ^ size = pow-le-pow_right {n = a} (omega arith) (omega arith) in
    omega (arith, ap (λ (n : ℕ). n * a) e, pow-suc a i, ap (λ (n : ℕ). a ^ n) (add-one i))
