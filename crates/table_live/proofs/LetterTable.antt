-- LetterTable: a table of the letters' numbers by their keys: how it is made, and that it tells the letter that a byte stands for.
use mathlib.Core.Path.{◌∙◌, ◌≡◌, ap, sym}
use mathlib.Core.Logic.{◌⊎◌, ⊎_elim}
use mathlib.Core.Bool.{cond}
use mathlib.Core.List.{List}
use mathlib.Core.Option.{none, some}
use Prim.Native.Nat.{◌+◌, ◌/◌, ◌<◌, ◌≤◌, suc, ℕ}
use native.Mathlib.Decide.{ℕ_discrete}
use native.Mathlib.Numerals.{add-one}
use native.Mathlib.Omega.{arith}
use borrow.Author.Tests.{eq-eqb, ne_eqb}
use lib.Dec.{eqb}
use lib.ListN.{drop, get_or, length}
use lib.Seq.{get_or-drop, get_or-take}
use Rattle.automata.specs.Counting.{Apart}
use Rattle.automata.specs.Letters.{key, keys}
use Rattle.automata.specs.Words.{letter_with}
use Rattle.automata.proofs.Laws.{letter_at, letter-nowhere}
use Rattle.file_fields.specs.Parts.{letter_bytes}
use Rattle.file_fields.specs.declared.Counts.{Counts}
use Rattle.word_layout.specs.Layout.{byte_letters, lettered_end}
use Rattle.word_fields.specs.Chains.{last}
use Rattle.word_fields.specs.Fields.{field}
use Rattle.word_fields.specs.Frame.{Kept}
use Rattle.word_fields.proofs.Laws.{field-same, last-is, off_chain}
use Rattle.table_live.specs.Steps.{LetterNumbers}

-- the key of letter i
abbrev pub key_at : List ℕ → ℕ → ℕ
key_at alphabet i = key (get_or alphabet i 0)

-- ---- what is told of a byte: the number of its letter, or that it is none
module _ (alphabet : List ℕ) (apart : Apart (keys alphabet)) (few : length alphabet ≤ 64) (byte : ℕ) {r : ℕ} (told : r ≡ last (key_at alphabet) (key byte) (length alphabet)) where
  pub told-some : r < 64 → letter_with alphabet byte ≡ some r
  told-some h = ⊎_elim (λ e. absurd (omega (arith, told, e))) (λ p. letter_at alphabet apart byte r (omega (arith, told, p.0)) (ap (key_at alphabet) told ∙ p.1)) (last-is (key_at alphabet) (key byte) (length alphabet))

  pub told_none : 64 ≤ r → letter_with alphabet byte ≡ none
  told_none h = letter-nowhere alphabet byte (λ k l. off_chain (key_at alphabet) (key byte) few told h k l)

-- ---- how it is made: the numbers of the first n letters
abbrev pub Upto : (alphabet w : List ℕ) (n : ℕ) → Type 0
Upto alphabet w n = (b : ℕ) → b < 256 → field w byte_letters b ≡ last (key_at alphabet) b n

pub upto-start : (alphabet w : List ℕ) → ((k : ℕ) → k < 256 → field w byte_letters k ≡ 65535) → Upto alphabet w 0
unfolding last
upto-start alphabet w filled b h = filled b h

pub upto-more : (alphabet w w' : List ℕ) (n : ℕ) {k : ℕ} → k ≡ key_at alphabet n → Upto alphabet w n → ((j : ℕ) → field w' byte_letters j ≡ cond (eqb j k) n (field w byte_letters j)) → Upto alphabet w' (n + 1)
unfolding last
upto-more alphabet w w' n {k} e u put b h = rw (add-one n) (go (ℕ_discrete b k))
  where
    go : Dec (b ≡ k) → field w' byte_letters b ≡ last (key_at alphabet) b (suc n)
    go (yes p) = put b ∙ rw (eq-eqb b k p, eq-eqb (key_at alphabet n) b (sym (p ∙ e)))
    go (no p) = put b ∙ rw (ne_eqb b k p, ne_eqb (key_at alphabet n) b (λ q. p (sym (e ∙ q)))) (u b h)

-- the bytes of the letters stand in the file, behind its header
pub letter-byte : (c : Counts) (file : List ℕ) (i : ℕ) → i < c.letters → get_or (letter_bytes c file) i 0 ≡ get_or file (12 + i) 0
letter-byte c file i h = get_or-take c.letters (drop 12 file) i 0 h ∙ get_or-drop 12 file i 0

-- ---- words written elsewhere leave it as it was
pub numbers-kept : (alphabet : List ℕ) {a b : ℕ} {w w' : List ℕ} → Kept a b w w' → (b ≤ byte_letters) ⊎ (lettered_end ≤ a) → LetterNumbers alphabet w → LetterNumbers alphabet w'
numbers-kept alphabet {w = w} {w'} k s n b h = field-same w w' byte_letters b (⊎_elim (λ u. k.above (byte_letters + b / 4) (omega arith)) (λ u. k.below (byte_letters + b / 4) (omega arith)) s) ∙ n b h
