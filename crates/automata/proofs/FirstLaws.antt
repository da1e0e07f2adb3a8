-- FirstLaws: the first of a list that passes a test, by what stands where in the list.
use mathlib.Core.Path.{◌∙◌, ◌≡◌, ap, refl, sym}
use mathlib.Core.Logic.{⊎_elim}
use Prim.Native.Nat.{◌<◌, suc, zero, ℕ}
use lib.Dec.{T}
use lib.ListN.{get_elem?}
use mathlib.Core.Bool.{Bool, false, true}
use mathlib.Core.List.Memᴰ
use mathlib.Core.List.{List, Memᴰ, [], ◌∷◌}
use mathlib.Core.Option.{Option, some-injective, none, some}
use native.Mathlib.Nat.{le_of_suc-le-suc, not-suc-le-zero}
use Rattle.automata.specs.Search.{first_of, this_or}

-- there is none, or it stands at i and none before it passes
pub data First {A : Type 0} (f : A → Bool) (l : List A) : Option A → Type 0 where
  nowhere : ((x : A) → Memᴰ x l → ¬ T (f x)) → First f l none
  at : (i : ℕ) (x : A) → get_elem? l i ≡ some x → T (f x) → ((j : ℕ) (y : A) → j < i → get_elem? l j ≡ some y → ¬ T (f y)) → First f l (some x)

pub first_of-first : {A : Type 0} (f : A → Bool) (l : List A) → First f l (first_of f l)
unfolding first_of
first_of-first f [] = nowhere (λ x m t. Memᴰ.not-nil m)
first_of-first {A} f (x ∷ l) = go (f x) refl (first_of f l) (first_of-first f l)
  where
    go : (b : Bool) → f x ≡ b → (o : Option A) → First f l o → First f (x ∷ l) (this_or b x o)
    go true e o s = at 0 x refl (rw e tt) (λ j y h. absurd (not-suc-le-zero h))
    go false e o (nowhere h) = nowhere (λ y m t. ⊎_elim (λ (q : y ≡ x). rw (ap f q ∙ e) at t) (λ (k : Memᴰ y l). h y k t) (Memᴰ.cases_cons m))
    go false e o (at i z p t h) = at (suc i) z p t earlier
      where
        earlier : (j : ℕ) (y : A) → j < suc i → get_elem? (x ∷ l) j ≡ some y → ¬ T (f y)
        earlier zero y k q t = rw (ap f (sym (some-injective x y q)) ∙ e) at t
        earlier (suc j) y k q t = h j y (le_of_suc-le-suc k) q t
