-- LetterListLaws: comparing the letters of two lists as `same_letters` does, pair after pair; and lists of other lengths.
use mathlib.Core.Path.{◌≡◌, ap, refl, sym, ◌∙◌}
use mathlib.Core.Logic.{◌≢◌}
use mathlib.Core.Bool.{Bool, ◌&&◌, false}
use mathlib.Core.List.{List, [], ◌∷◌}
use Prim.Native.Nat.{ℕ}
use native.Mathlib.Omega.{arith}
use lib.Dec.{eqb}
use lib.ListN.{length, length-map}
use Rattle.std.specs.List.{list_all, zip}
use Rattle.automata.specs.Letters.{key, keys, same_key}
use Rattle.automata.specs.Lists.{same_by}
use Rattle.automata.proofs.Laws.{Bool-ext, eqb-iff, same_by-iff}

-- lists of one length, pair after pair
pub all_alike : (l r : List ℕ) → length l ≡ length r → list_all (λ (p : ℕ × ℕ). same_key p.0 p.1) (zip l r) ≡ same_by eqb (keys l) (keys r)
unfolding same_by
all_alike [] [] e = refl
all_alike [] (y ∷ r) e = absurd (omega arith)
all_alike (x ∷ l) [] e = absurd (omega arith)
all_alike (x ∷ l) (y ∷ r) e = ap (λ (b : Bool). same_key x y && b) (all_alike l r (omega arith))

-- lists of other lengths differ
pub other_lengths : (l r : List ℕ) → length l ≢ length r → same_by eqb (keys l) (keys r) ≡ false
other_lengths l r h =
    Bool-ext (same_by eqb (keys l) (keys r)) false (λ t. h (sym (length-map l key) ∙ ap length ((same_by-iff eqb eqb-iff (keys l) (keys r)).0 t) ∙ length-map r key)) (λ t. absurd t)
