-- Search: what words lead to, from a state by δ over the letters below a: the states met, and with each a word that leads there.
-- An exploration (Exploration) whose targets are taken in letter order, so the word met first is the first of all that lead there, in the
-- order of words (WordOrder). Over any type of states.
use Rattle.std.specs.Prelude.{◌≡◌, ℕ, ◌<◌, List, [], ◌∷◌, ◌++◌, map, Bool, true, false, T}
use Rattle.std.proofs.Math.Option.{Option, none, some}
use Rattle.automata.specs.Lists.{count_from}
use Rattle.automata.specs.Exploration.{known}
use Rattle.automata.specs.WordOrder.{Before, Earliest}

-- a word over the letters below a
abbrev pub Over : ℕ → List ℕ → Type 0
Over a [] = Unit {0}
Over a (x ∷ w) = (x < a) × Over a w

-- where a word leads
unfoldable pub leads : {Q : Type 0} → (Q → ℕ → Q) → Q → List ℕ → Q
leads δ q [] = q
leads δ q (x ∷ w) = leads δ (δ q x) w

-- the targets of a state, in letter order
unfoldable pub nexts : {Q : Type 0} → (Q → ℕ → Q) → ℕ → Q → List Q
unfolding count_from
nexts δ a q = map (δ q) (count_from 0 a)

-- a state, and a word that leads to it
pub record Entry (Q : Type 0) : Type 0 where
  pub state : Q
  pub word : List ℕ

-- the state that the empty word leads to
abbrev pub origin : {Q : Type 0} → Q → Entry Q
origin q = record { state = q; word = [] }

-- entries are told apart by their states, not by their words
abbrev pub same_entry : {Q : Type 0} → (Q → Q → Bool) → Entry Q → Entry Q → Bool
same_entry same e f = same e.state f.state

-- the entries that one letter more leads to, in letter order
unfoldable pub next_entries : {Q : Type 0} → (Q → ℕ → Q) → ℕ → Entry Q → List (Entry Q)
unfolding count_from
next_entries δ a e = map (λ x. record { state = δ e.state x; word = e.word ++ x ∷ [] }) (count_from 0 a)

module _ {Q : Type 0} (same : Q → Q → Bool) (δ : Q → ℕ → Q) (a : ℕ) (q₀ : Q) where
  -- the states in number order, once n of them have been walked
  unfoldable pub met : ℕ → List Q
  unfolding nexts known
  met n = known same (nexts δ a) (q₀ ∷ []) n

  -- the same, each with the word by which it was met
  unfoldable pub entries : ℕ → List (Entry Q)
  unfolding next_entries known
  entries n = known (same_entry same) (next_entries δ a) (origin q₀ ∷ []) n

-- x where the test passes, else what is found later
abbrev pub this_or : {A : Type 0} → Bool → A → Option A → Option A
this_or true x o = some x
this_or false x o = o

-- the first that passes the test
unfoldable pub first_of : {A : Type 0} → (A → Bool) → List A → Option A
first_of f [] = none
first_of f (x ∷ l) = this_or (f x) x (first_of f l)

-- ---- what makes the first entry that passes a test right, with no algorithm in sight
module _ {Q : Type 0} (δ : Q → ℕ → Q) (a : ℕ) (q₀ : Q) (test : Q → Bool) where
  -- the word is over the letters below a, and leads to a state that passes the test
  abbrev pub Passes : List ℕ → Type 0
  Passes w = Over a w × T (test (leads δ q₀ w))

  -- there is none, and no word passes; or its word leads to its state, and is the first of the words that pass
  abbrev pub Finds : Option (Entry Q) → Type 0
  Finds none = (w : List ℕ) → ¬ Passes w
  Finds (some e) = (leads δ q₀ e.word ≡ e.state) × Earliest Before Passes e.word
