-- Promised: what is promised of judging many words, with no algorithm in sight: which words they are, and that each has the answer that
-- membership gives.
use Rattle.std.specs.Prelude.{◌≡◌, ◌⊎◌, ◌<◌, ◌≤◌, ℕ, drop, get_or, length, Err, Ok, Result}
use mathlib.Core.List.{List, Memᴰ, [], ◌++◌, ◌∷◌}
use Rattle.automata.specs.Lists.{Each}
use Rattle.table.specs.Membership.{membership_of}
use Rattle.file_fields.specs.declared.Refusal.{Refusal}
use Rattle.table_words.specs.Words.{packed}
use Rattle.table_words.specs.declared.Judged.{Judged}

-- words one behind the other, each with the separator behind it
unfoldable pub joined : (separator : ℕ) → List (List ℕ) → List ℕ
joined separator [] = []
joined separator (word ∷ l) = word ++ (separator ∷ joined separator l)

-- l are the first words that end in the bytes, at most `room`: no word has the separator in it, and if there is room for more, none is left
pub record FirstWords (separator room : ℕ) (bytes : List ℕ) (l : List (List ℕ)) : Type 0 where
  pub rest : List ℕ
  pub whole : bytes ≡ joined separator l ++ rest
  pub apart : Each (λ word. ¬ Memᴰ separator word) l
  pub few : length l ≤ room
  pub none_left : (length l ≡ room) ⊎ (¬ Memᴰ separator rest)

-- the words were judged: `count` of them, which take `taken` bytes; each has its answer in its place, and places behind them are as they were lent
pub record EachJudged (file bytes : List ℕ) (separator words : ℕ) (lent answers : List ℕ) (count taken : ℕ) : Type 0 where
  pub judged : List (List ℕ)
  pub first : FirstWords separator (length lent) bytes judged
  pub counted : count ≡ length judged
  pub bytes_taken : taken ≡ length (joined separator judged)
  pub each_is : (i : ℕ) → i < count → get_or answers i 0 ≡ packed (membership_of file (get_or judged i []) words)
  pub others : drop count answers ≡ drop count lent

-- what is promised, by the answer: where the call is refused, every word is, with the same number and automaton, and nothing is written
abbrev pub Promised : (file bytes : List ℕ) (separator words : ℕ) (lent answers : List ℕ) → Result Judged Refusal → Type 0
Promised file bytes separator words lent answers (Ok j) = EachJudged file bytes separator words lent answers j.count j.bytes
Promised file bytes separator words lent answers (Err r) = ((word : List ℕ) → membership_of file word words ≡ Err r) × (answers ≡ lent)
