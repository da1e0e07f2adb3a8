-- TwoFrames: laws of words kept but for two parts.
use mathlib.Core.Path.{◌∙◌, ◌≡◌, refl}
use Prim.Native.Nat.{◌+◌, ◌<◌, ◌≤◌, ℕ}
use lib.ListN.{get_or, length, length-drop, length-take, drop, take}
use lib.Seq.{ext_get_or, get_or-drop, get_or-take}
use mathlib.Core.List.{List}
use mathlib.Core.Path.{sym}
use native.Mathlib.Omega.{arith}
use Rattle.word_fields.specs.Frame.{KeptBut}
use Rattle.word_fields.specs.Frame.{Kept}

pub but_then : {a b c d : ℕ} {w w'' w''' : List ℕ} → KeptBut a b c d w w'' → KeptBut a b c d w'' w''' → KeptBut a b c d w w'''
but_then p q = record {
  long = q.long ∙ p.long;
  below = λ j h. q.below j h ∙ p.below j h;
  between = λ j h g. q.between j h g ∙ p.between j h g;
  above = λ j h. q.above j h ∙ p.above j h;
}

pub but_same : (a b c d : ℕ) (w : List ℕ) → KeptBut a b c d w w
but_same a b c d w = record { long = refl; below = λ j h. refl; between = λ j h g. refl; above = λ j h. refl }

-- wider parts
pub but_wider : {a b c d a' b' c' d' : ℕ} {w w'' : List ℕ} → a' ≤ a → b ≤ b' → c' ≤ c → d ≤ d' → KeptBut a b c d w w'' → KeptBut a' b' c' d' w w''
but_wider h i k l p = record { long = p.long; below = λ j x. p.below j (omega arith); between = λ j x y. p.between j (omega arith) (omega arith); above = λ j x. p.above j (omega arith) }

-- only words of the first part changed, or only words of the second
pub but_low : {a b c d x y : ℕ} {w w'' : List ℕ} → a ≤ x → y ≤ b → y ≤ d → Kept x y w w'' → KeptBut a b c d w w''
but_low h i k p = record { long = p.long; below = λ j l. p.below j (omega arith); between = λ j l m. p.above j (omega arith); above = λ j l. p.above j (omega arith) }

pub but_high : {a b c d x y : ℕ} {w w'' : List ℕ} → a ≤ x → c ≤ x → y ≤ d → Kept x y w w'' → KeptBut a b c d w w''
but_high h i k p = record { long = p.long; below = λ j l. p.below j (omega arith); between = λ j l m. p.below j (omega arith); above = λ j l. p.above j (omega arith) }

-- a part whose words are as they were
pub part_same : (w w'' : List ℕ) (at n : ℕ) → length w'' ≡ length w → ((j : ℕ) → j < n → get_or w'' (at + j) 0 ≡ get_or w (at + j) 0) → take n (drop at w'') ≡ take n (drop at w)
part_same w w'' at n e f =
    ext_get_or 0 (take n (drop at w'')) (take n (drop at w)) (simp (length-take, length-drop, e))
    (λ i h.
    let l : i < n = omega (arith, simp (length-take, length-drop) at h) in
    get_or-take n (drop at w'') i 0 l ∙ get_or-drop at w'' i 0 ∙ f i l ∙ sym (get_or-take n (drop at w) i 0 l ∙ get_or-drop at w i 0))
