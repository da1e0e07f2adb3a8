-- Exploration: numbering whatever can be reached, in the order of document 01's unfolding: in number order, each new target
-- gets the next number. Over any type of elements, with any test of which are the same; one law serves every walk.
use Prim.Native.Nat.{ℕ, zero, suc}
use mathlib.Core.List.{List, [], ◌∷◌, ◌++◌, Memᴰ}
use Rattle.std.proofs.Math.Option.{Option, none, some}
use Rattle.std.specs.Prelude.{Bool, true, false, T}
use Rattle.std.proofs.Math.ListN.{get_elem?}
use Rattle.automata.specs.Lists.{any}

-- the list, with x at its end unless the list has it already
abbrev pub unless_had : {X : Type 0} → Bool → List X → X → List X
unless_had true l x = l
unless_had false l x = l ++ x ∷ []

-- 0 where the first element is the one that is looked for, else one more than its number among the others
abbrev pub first_or : Bool → ℕ → ℕ
first_or true n = 0
first_or false n = suc n

module _ {X : Type 0} (same : X → X → Bool) where
  -- does the list hold the same as x?
  unfoldable pub has : X → List X → Bool
  unfolding any
  has x l = any (same x) l

  -- x at the end, if it is new
  unfoldable pub add : List X → X → List X
  unfolding has
  add l x = unless_had (has x l) l x

  -- all of them at the end, in their order, each if it is new
  unfoldable pub add_all : List X → List X → List X
  unfolding add
  add_all l [] = l
  add_all l (x ∷ xs) = add_all (add l x) xs

  -- the number of the first that is the same as x; the length of the list where there is none
  unfoldable pub number : X → List X → ℕ
  number x [] = 0
  number x (y ∷ l) = first_or (same x y) (number x l)

  -- each one is the same as none before it
  abbrev pub Distinct : List X → Type 0
  Distinct [] = Unit {0}
  Distinct (x ∷ l) = ((y : X) → Memᴰ y l → ¬ T (same y x)) × Distinct l

-- what the element leads to, where there is one
abbrev pub targets : {X : Type 0} → (X → List X) → Option X → List X
targets next none = []
targets next (some x) = next x

module _ {X : Type 0} (same : X → X → Bool) (next : X → List X) where
  -- the list after number n has been walked
  unfoldable pub walk : List X → ℕ → List X
  unfolding add_all
  walk l n = add_all same l (targets next (get_elem? l n))

  -- what is numbered once the numbers below n have been walked
  unfoldable pub known : List X → ℕ → List X
  unfolding walk
  known start zero = start
  known start (suc n) = walk (known start n) n

-- what can be reached from the list `start`
pub data Reach {X : Type 0} (next : X → List X) (start : List X) : X → Type 0 where
  first : {x : X} → Memᴰ x start → Reach next start x
  later : {x y : X} → Reach next start x → Memᴰ y (next x) → Reach next start y
