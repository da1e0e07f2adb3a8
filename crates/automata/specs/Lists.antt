-- Lists: the few operations on lists that the definitions use and the library lacks.
use Rattle.std.specs.Prelude.{ℕ, zero, suc, List, [], ◌∷◌, Bool, true, false, ◌||◌, ◌&&◌, eqb}
use Rattle.std.proofs.Math.Option.{Option, none, some}

-- does one of them pass the test?
unfoldable pub any : {A : Type 0} → (A → Bool) → List A → Bool
any p [] = false
any p (x ∷ l) = p x || any p l

-- a, if the test passes
abbrev pub only : {A : Type 0} → Bool → A → Option A
only true a = some a
only false a = none

-- the result in front, where there is one
abbrev pub prepend : {A : Type 0} → Option A → List A → List A
prepend none l = l
prepend (some x) l = x ∷ l

-- the results, in order, of those that have one
unfoldable pub collect : {A B : Type 0} → (A → Option B) → List A → List B
collect f [] = []
collect f (x ∷ l) = prepend (f x) (collect f l)

-- the list, if the test passes
unfoldable pub keep : {A : Type 0} → Bool → List A → List A
keep true l = l
keep false l = []

-- n numbers from i on
unfoldable pub count_from : ℕ → ℕ → List ℕ
count_from i zero = []
count_from i (suc n) = i ∷ count_from (suc i) n

-- P holds of each
abbrev pub Each : {A : Type 0} → (A → Type 0) → List A → Type 0
Each P [] = Unit {0}
Each P (x ∷ l) = P x × Each P l

-- ---- are two of them the same?
-- both the empty move, or one letter
unfoldable pub same_letter : Option ℕ → Option ℕ → Bool
same_letter none none = true
same_letter none (some b) = false
same_letter (some a) none = false
same_letter (some a) (some b) = eqb a b

-- element by element
unfoldable pub same_by : {A : Type 0} → (A → A → Bool) → List A → List A → Bool
same_by same [] [] = true
same_by same [] (y ∷ v) = false
same_by same (x ∷ u) [] = false
same_by same (x ∷ u) (y ∷ v) = same x y && same_by same u v
