-- Inputs: what is said of an answer about bytes that were read. No contract can say which bytes a program reads, from a file or as an
-- argument; these say what the answer has to do with them.
use Rattle.std.specs.Prelude.{[], ◌≡◌, ◌⊎◌, ◌↔◌, Bool, List, ◌≤◌, ℕ, T, length, take}
use Rattle.std.specs.Borrow.{Bor, MutBor}

-- so many bytes stand at the front of a text: there are as many
abbrev pub IsPrefixLen : ℕ → List ℕ → Type 0
IsPrefixLen n xs = (n ≤ length xs) × (n ≡ length (take n xs))

-- a text stands at the front of the buffer that was lent: it begins where the buffer begins, and has no more bytes than that
abbrev pub IsFrontOf : MutBor (List ℕ) → Bor (List ℕ) → Type 0
IsFrontOf buffer text = (length text.now ≤ length buffer.now) × (text.ref_ptr ≡ buffer.ref_ptr)

-- the same of a text that is there; one that is not there is empty
abbrev pub IsFrontOrEmpty : MutBor (List ℕ) → Bor (List ℕ) → Type 0
IsFrontOrEmpty buffer text = (length text.now ≤ length buffer.now) × ((text.ref_ptr ≡ buffer.ref_ptr) ⊎ (text.now ≡ []))

-- the answer whether an argument is the word: a text of at most 4,096 bytes was read, and it is that word or not
pub record Asked (word : List ℕ) (answer : Bool) : Type 0 where
  pub text : List ℕ
  pub short : length text ≤ 4096
  pub same : T answer ↔ (text ≡ word)
