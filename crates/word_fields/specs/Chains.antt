-- Chains: entries 0, 1, 2 .. with keys, found again by their key. For each key a field has its last entry (the head of its chain),
-- and for each entry a field has the entry before it with the same key (the next one of the chain).
use Rattle.std.specs.Prelude.{◌≡◌, cond, List, ℕ, zero, suc, ◌+◌, ◌/◌, ◌%◌, ◌≤◌, ◌<◌, eqb, length, get_or, Option, MatchOption}
use Rattle.word_fields.specs.Fields.{field}

-- what stands in a field for no entry
abbrev pub no_entry : ℕ
no_entry = 65535

-- the last of the first n entries whose key is s
unfoldable pub last : (ℕ → ℕ) → ℕ → ℕ → ℕ
last key s zero = no_entry
last key s (suc n) = cond (eqb (key n) s) n (last key s n)

-- the words hold the chains of the first n entries, whose keys are below `slots`
pub record Chain (key : ℕ → ℕ) (w : List ℕ) (heads nexts slots n : ℕ) : Type 0 where
  pub head : (s : ℕ) → s < slots → field w heads s ≡ last key s n
  pub next : (j : ℕ) → j < n → field w nexts j ≡ last key (key j) j

-- r is one of the first n that are looked for, or n where there is none
pub record Found (Hit : ℕ → Type 0) (n r : ℕ) : Type 0 where
  pub few : r ≤ n
  pub hit : r < n → Hit r
  pub miss : r ≡ n → (i : ℕ) → i < n → ¬ Hit i

-- the answer is the place of one of the first n that are looked for, or none where there is none
abbrev pub FoundAt : (ℕ → Type 0) → ℕ → Option ℕ → Type 0
FoundAt Hit n r = MatchOption r ((i : ℕ) → i < n → ¬ Hit i) (λ g. (g < n) × Hit g)

-- ---- a table of words

-- the key of a word: any number below 509 that depends on the word alone would do
unfoldable pub slot : ℕ → ℕ
slot x = x % 509

-- the chains of the first n words from `table` on
abbrev pub WordChain : List ℕ → ℕ → ℕ → ℕ → ℕ → Type 0
WordChain w table heads nexts n = Chain (λ i. slot (get_or w (table + i) 0)) w heads nexts 509 n

-- word i of the table is x
abbrev pub WordAt : List ℕ → ℕ → ℕ → ℕ → Type 0
WordAt w table x i = get_or w (table + i) 0 ≡ x

-- a table of n words, then 509 heads, then n nexts
pub record Room (w : List ℕ) (table heads nexts n : ℕ) : Type 0 where
  pub few : n ≤ no_entry
  pub words : table + n ≤ heads
  pub firsts : heads + 128 ≤ nexts
  pub others : nexts + (n + 3) / 4 ≤ length w
