-- EachElement: what holds of each element of a list, of lists that are made of others.
use mathlib.Core.Bool.{Bool, false, true}
use mathlib.Core.List.{List, ◌∷◌, flat_map, map, []}
use Rattle.automata.specs.Lists.{Each, keep}
use Rattle.automata.proofs.Laws.{each-join}

module _ {A : Type 0} (P : A → Type 0) where
  pub each-imply : (Q : A → Type 0) → ((x : A) → P x → Q x) → (l : List A) → Each P l → Each Q l
  each-imply Q f [] h = tt
  each-imply Q f (x ∷ l) h = (f x h.0, each-imply Q f l h.1)

  pub each_map : {B : Type 0} (f : B → A) (l : List B) → Each (λ (x : B). P (f x)) l → Each P (map f l)
  each_map f [] h = tt
  each_map f (x ∷ l) h = (h.0, each_map f l h.1)

  pub each-flat_map : {B : Type 0} (f : B → List A) (l : List B) → Each (λ (x : B). Each P (f x)) l → Each P (flat_map f l)
  unfolding flat_map
  each-flat_map f [] h = tt
  each-flat_map f (x ∷ l) h = each-join P (f x) (flat_map f l) h.0 (each-flat_map f l h.1)

  pub each_keep : (t : Bool) (l : List A) → Each P l → Each P (keep t l)
  unfolding keep
  each_keep true l h = h
  each_keep false l h = tt
