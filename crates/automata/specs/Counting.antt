-- Counting: how many things there are, said of the things themselves and not of how they are found.
use Rattle.std.specs.Prelude.{◌≡◌, ◌↔◌, ℕ, ◌<◌, length}
use mathlib.Core.List.{List, [], ◌∷◌, Memᴰ}

-- no two places of the list hold the same
abbrev pub Apart : {A : Type 0} → List A → Type 0
Apart [] = Unit {0}
Apart (x ∷ l) = (¬ Memᴰ x l) × Apart l

-- exactly n things are P
pub record Exactly {A : Type 0} (P : A → Type 0) (n : ℕ) : Type 0 where
  pub list : List A
  pub apart : Apart list
  pub each : (x : A) → Memᴰ x list ↔ P x
  pub many : length list ≡ n

-- more than n things are P
pub record MoreThan {A : Type 0} (P : A → Type 0) (n : ℕ) : Type 0 where
  pub list : List A
  pub apart : Apart list
  pub each : (x : A) → Memᴰ x list → P x
  pub many : n < length list
