-- FillLaws: a list filled from its front, place after place.
use mathlib.Core.Path.{◌≡◌, ◌∙◌, ap, sym}
use mathlib.Core.List.{List, [], ◌∷◌, ◌++◌, map}
use Prim.Native.Nat.{ℕ, ◌+◌, ◌<◌}
use native.Mathlib.Numerals.{add-one}
use lib.ListN.{get_or, length, set, take}
use lib.Seq.{take-suc, take-suc-set}
use Rattle.automata.proofs.Laws.{map-append}

-- one more, which is what f makes of the next of a list
pub filled_more : (f : ℕ → ℕ) (l r : List ℕ) (i : ℕ) → i < length l → i < length r → take i r ≡ map f (take i l) → take (i + 1) (set r i (f (get_or l i 0))) ≡ map f (take (i + 1) l)
filled_more f l r i h k e =
    rw add-one (take-suc-set r i (f (get_or l i 0)) k ∙ ap (λ (t : List ℕ). t ++ (f (get_or l i 0) ∷ [])) e ∙ sym (ap (map f) (take-suc l i 0 h) ∙ map-append f (take i l) (get_or l i 0 ∷ [])))
