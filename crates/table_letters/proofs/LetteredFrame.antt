-- LetteredFrame: words written elsewhere leave the chains of the listed arcs as they were, and the sets of the letters.
use mathlib.Core.Path.{◌≡◌, ap, ap₂, refl, sym}
use mathlib.Core.Logic.{◌⊎◌, inl, inr, ⊎_elim}
use mathlib.Core.Bool.{cond}
use mathlib.Core.List.{List}
use Prim.Native.Nat.{◌*◌, ◌+◌, ◌/◌, ◌<◌, ◌≤◌, suc, zero, ℕ}
use native.Mathlib.Decide.{dec_lt}
use native.Mathlib.Omega.{arith}
use borrow.Author.Tests.{le-ltb, lt-ltb}
use lib.Dec.{leb}
use lib.ListN.{get_or, length}
use Rattle.word_fields.specs.Frame.{Kept}
use Rattle.word_fields.proofs.Laws.{chain-kept}
use Rattle.word_rows.specs.Rows.{related}
use Rattle.word_rows.proofs.Laws.{row_same}
use Rattle.word_sets.specs.Sets.{in_set}
use Rattle.table_sets.specs.Stepping.{plain_letter_at}
use Rattle.table_sets.proofs.Laws.{SameBlock, arc-kept, block-kept, start-kept, starts-kept}
use Rattle.word_layout.specs.Layout.{byte_letters, letter_heads, letter_heads_end, letter_nexts, letter_sources}
use Rattle.word_layout.specs.declared.Block.{Block}
use Rattle.table_letters.specs.Lettered.{Lettered, arc_key, key_of, last_start, row_of, source_of}

-- a row is one of those that there are
pub row_below : (letters byte : ℕ) → row_of letters byte ≤ letters
unfolding row_of
row_below letters byte = go (dec_lt byte letters)
  where
    go : Dec (byte < letters) → row_of letters byte ≤ letters
    go (yes h) = rw (lt-ltb byte letters h) (omega arith)
    go (no h) = rw (le-ltb byte letters (omega arith)) (omega arith)

-- ---- the words of the block are as they were
module _ {w w' : List ℕ} (block : Block) (b : SameBlock block.base w w') where
  last-kept : (k n : ℕ) → n ≤ 256 → last_start w' block.base k n ≡ last_start w block.base k n
  unfolding last_start
  last-kept k zero h = refl
  last-kept k (suc n) h = ap₂ (λ (s r : ℕ). cond (leb s k) n r) (start-kept b n (omega arith)) (last-kept k n (omega arith))

  pub letter-kept : (k : ℕ) → k < 2048 → plain_letter_at w' block.base k ≡ plain_letter_at w block.base k
  letter-kept k h = ap (λ (x : ℕ). x / 256) (arc-kept b k h)

  pub source-kept : block.count ≤ 256 → (k : ℕ) → source_of w' block k ≡ source_of w block k
  source-kept few k = last-kept k block.count few

  pub arc_key-kept : (letters : ℕ) → block.count ≤ 256 → (k : ℕ) → k < 2048 → arc_key letters w' block k ≡ arc_key letters w block k
  unfolding arc_key
  arc_key-kept letters few k h = ap₂ (λ (l s : ℕ). key_of (row_of letters l) s) (letter-kept k h) (source-kept few k)

-- ---- and so are the chains and the sets
-- the set of a letter
pub noted-kept : (w w' : List ℕ) → length w' ≡ length w → ((i : ℕ) → letter_sources ≤ i → i < byte_letters → get_or w' i 0 ≡ get_or w i 0) → (r j : ℕ) → r ≤ 64 → related w' letter_sources r j ≡ related w letter_sources r j
unfolding related
noted-kept w w' e same r j h = ap (λ (s : List ℕ). in_set s j) (row_same w w' letter_sources r e (λ q l. same (letter_sources + 4 * r + q) (omega arith) (omega arith)))

-- THE LAW. Words written outside the heads, the block, the nexts and the sets.
pub lettered-same : {letters : ℕ} {w w' : List ℕ} {block : Block} → SameBlock block.base w w' → ((i : ℕ) → i < letter_heads_end → get_or w' i 0 ≡ get_or w i 0)
    → ((i : ℕ) → letter_nexts ≤ i → i < byte_letters → get_or w' i 0 ≡ get_or w i 0) → Lettered letters w block → Lettered letters w' block
lettered-same {letters} {w} {w'} {block} b heads rest l = record {
  small = l.small;
  few = l.few;
  below = l.below;
  above = l.above;
  room = omega (arith, l.room, b.long);
  listed = starts-kept b l.listed;
  linked = record {
    chain = chain-kept (λ k h. sym (arc_key-kept block b letters l.listed.few k (omega (arith, l.few)))) (λ s h. heads (letter_heads + s / 4) (omega (arith, l.small))) (λ k h. rest (letter_nexts + k / 4) (omega arith) (omega (arith, l.few))) l.linked.chain;
    noted = λ k h.
        rw (letter-kept block b k (omega (arith, l.few)), source-kept block b l.listed.few k, noted-kept w w' b.long (λ i x y. rest i (omega arith) y) (row_of letters (plain_letter_at w block.base k)) (source_of w block k) (omega (arith, l.small, row_below letters (plain_letter_at w block.base k))))
        (l.linked.noted k h);
  };
}

-- the same of one part that was written, between the heads and the block or above all of them
pub lettered-kept : {letters a b : ℕ} {w w' : List ℕ} {block : Block} → Kept a b w w' → letter_heads_end ≤ a → (b ≤ block.base) ⊎ (byte_letters ≤ a) → Lettered letters w block → Lettered letters w' block
lettered-kept k h s l =
    lettered-same (block-kept k (⊎_elim (λ u. inl u) (λ u. inr (omega (arith, l.above))) s)) (λ i g. k.below i (omega arith))
    (λ i g u. ⊎_elim (λ v. k.above i (omega (arith, l.above))) (λ v. k.below i (omega arith)) s) l
