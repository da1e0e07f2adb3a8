-- JudgingLaws: an automaton that words can be judged by: how it comes to be, and that it stays so where a word was walked.
use mathlib.Core.Path.{◌∙◌, ◌≡◌}
use mathlib.Core.Logic.{inl, inr}
use mathlib.Core.List.{List}
use Prim.Native.Nat.{◌*◌, ◌+◌, ◌<◌, ◌≤◌, ℕ}
use native.Mathlib.Omega.{arith}
use lib.ListN.{length}
use Rattle.automata.specs.Automaton.{Automaton, letters}
use Rattle.automata.specs.Counting.{Apart}
use Rattle.automata.specs.Letters.{keys}
use Rattle.automata.specs.Unfolding.{configurations, final_set, plain_arcs}
use Rattle.file_fields.specs.Parts.{letter_bytes}
use Rattle.file_fields.specs.declared.Counts.{Counts}
use Rattle.std.specs.Prelude.{Ok}
use Rattle.file_fields.proofs.Laws.{letters-length}
use Rattle.format.specs.Decoding.{automaton_of}
use Rattle.format.specs.Reading.{reading_of}
use Rattle.file_laws.proofs.Laws.{valid-alphabet, valid-lies, valid-well_formed}
use Rattle.word_layout.specs.Layout.{arcs_at, block_end, byte_letters, final_row, first_block, first_sets, letter_heads, letter_heads_end, letter_nexts, lettered_end}
use Rattle.word_layout.specs.declared.Block.{Block}
use Rattle.word_fields.specs.Frame.{Kept, KeptBut}
use Rattle.word_sets.specs.Sets.{view}
use Rattle.word_rows.specs.Rows.{row}
use Rattle.word_rows.proofs.Laws.{row-above, row_same}
use Rattle.table_sets.specs.Stepping.{Tells}
use Rattle.table_sets.proofs.Laws.{SameBlock, block-but, block-kept, tells-kept}
use Rattle.table_file_steps.proofs.Laws.{map-kept}
use Rattle.table_letters.specs.Lettered.{Lettered}
use Rattle.table_letters.proofs.Laws.{lettered-kept}
use Rattle.table_live.specs.Steps.{LetterNumbers}
use Rattle.table_live.proofs.Laws.{numbers-kept, Outgoing-kept, Steppable-kept}
use Rattle.table.specs.Built.{Built}
use Rattle.table.specs.Judging.{Judging}
use Rattle.table.specs.Standing.{Stands}
use Rattle.table.proofs.Standing.{stands-kept, stands-outgoing, stands-steps, stands-told}

-- the letters of a valid file stand in it, as many as its counts say, and no two of them are one letter
pub letters-there : (file : List ℕ) (c : Counts) → reading_of file ≡ Ok c → 12 + c.letters ≤ length file
letters-there file c e = omega (arith, (valid-lies file c e).fits)

pub letters-many : (file : List ℕ) (c : Counts) → reading_of file ≡ Ok c → length (letter_bytes c file) ≡ c.letters
letters-many file c e = letters-length c file (letters-there file c e)

pub letters_apart : (file : List ℕ) (c : Counts) → reading_of file ≡ Ok c → Apart (keys (letter_bytes c file))
letters_apart file c e = rw (valid-alphabet file c e) at (valid-well_formed file c e).letters_apart

-- a block that tells the plain arcs tells them still where words elsewhere were written
built-same : {x : Automaton} {w w' : List ℕ} {block : Block} → SameBlock block.base w w' → Built x 256 w block → Built x 256 w' block
built-same same b = record { many = b.many; ended = b.ended; tells = tells-kept same b.tells }

-- ---- how it comes to be: all but the numbers of the letters, which are noted last
pub record Readied (file : List ℕ) (c : Counts) (w : List ℕ) (block : Block) : Type 0 where
  pub enough : 8192 ≤ length w
  pub first : block.base ≡ first_block
  pub built : Built (automaton_of file) 256 w block
  pub finals : view block.count (row w final_row 0) ≡ final_set (automaton_of file) (configurations (automaton_of file) 256)
  pub lettered : block.plain ≤ 2048 → Lettered c.letters w block
  pub filed : 2048 < block.plain → Stands file c w block

-- the block stands, and the final configurations are noted
pub record Noted (file : List ℕ) (c : Counts) (w : List ℕ) (block : Block) : Type 0 where
  pub enough : 8192 ≤ length w
  pub first : block.base ≡ first_block
  pub stands : Stands file c w block
  pub finals : view block.count (row w final_row 0) ≡ final_set (automaton_of file) (configurations (automaton_of file) 256)

-- arcs that add nothing are dropped
pub noted-thin : {file : List ℕ} {c : Counts} {w w' : List ℕ} {block left : Block} → Noted file c w block → KeptBut first_sets (first_sets + 256) (arcs_at block.base) (block_end block.base) w w'
    → left.base ≡ block.base → left.count ≡ block.count → Tells (letters (automaton_of file)) (plain_arcs (automaton_of file) 256) w' left → Noted file c w' left
noted-thin {file} {w = w} {w'} {block} {left} n k base count tells = record {
  enough = omega (arith, n.enough, k.long);
  first = base ∙ n.first;
  stands = stands-told n.stands left k.long (λ j g l. k.below j (omega arith)) base count tells;
  finals = rw (count, row_same w w' final_row 0 k.long (λ q l. k.above (final_row + 4 * 0 + q) (omega (arith, n.first)))) n.finals;
}

-- too many to be listed
pub noted-filed : {file : List ℕ} {c : Counts} {w : List ℕ} {block : Block} → Noted file c w block → 2048 < block.plain → Readied file c w block
noted-filed n h = record { enough = n.enough; first = n.first; built = n.stands.built; finals = n.finals; lettered = λ l. absurd (omega arith); filed = λ l. n.stands }

-- chained by letter and source
pub noted-linked : {file : List ℕ} {c : Counts} {w w' : List ℕ} {block : Block} → Noted file c w block → block.plain ≤ 2048 → KeptBut letter_heads letter_heads_end letter_nexts byte_letters w w' → Lettered c.letters w' block → Readied file c w' block
noted-linked {file} {w = w} {w'} {block} n h k l = record {
  enough = omega (arith, n.enough, k.long);
  first = n.first;
  built = built-same (block-but k (omega (arith, n.first)) (inl (omega (arith, n.first)))) n.stands.built;
  finals = rw (row_same w w' final_row 0 k.long (λ q l. k.above (final_row + 4 * 0 + q) (omega arith))) n.finals;
  lettered = λ g. l;
  filed = λ g. absurd (omega arith);
}

-- and the numbers of the letters are noted
pub Readied-numbered : {file : List ℕ} {c : Counts} {w w' : List ℕ} {block : Block} → reading_of file ≡ Ok c → Readied file c w block → Kept byte_letters lettered_end w w' → LetterNumbers (letter_bytes c file) w' → Judging file c w' block
Readied-numbered {w' = w'} {block} valid r k numbers =
    let long : 8192 ≤ length w' = omega (arith, r.enough, k.long) in
    record {
      valid = valid;
      enough = long;
      first = r.first;
      built = built-same (block-kept k (inr (omega (arith, r.first)))) r.built;
      finals = rw (row-above final_row 0 k (omega arith)) r.finals;
      numbers = numbers;
      lettered = λ g. lettered-kept k (omega arith) (inr (omega arith)) (r.lettered g);
      filed = λ g.
          let s = stands-kept (r.filed g) (inr (omega arith)) (inr (omega (arith, r.first))) k in
          (stands-steps s (record { block = omega (arith, long, r.first); rows = omega (arith, long); apart = inl (omega (arith, r.first)) }), stands-outgoing s);
    }

-- ---- a word was walked
pub Judging-kept : {file : List ℕ} {c : Counts} {w w' : List ℕ} {block : Block} → Kept first_sets (first_sets + 256) w w' → Judging file c w block → Judging file c w' block
Judging-kept {file} {c} {block = block} k j =
    let same = map-kept block (inr (omega arith)) (inl (omega (arith, j.first))) j.built.tells.few k in
    record {
      valid = j.valid;
      enough = omega (arith, j.enough, k.long);
      first = j.first;
      built = built-same same.rows j.built;
      finals = rw (row-above final_row 0 k (omega arith)) j.finals;
      numbers = numbers-kept (letter_bytes c file) k (inl (omega arith)) j.numbers;
      lettered = λ g. lettered-kept k (omega arith) (inl (omega (arith, j.first))) (j.lettered g);
      filed = λ g. (Steppable-kept same (j.filed g).0, Outgoing-kept same (j.filed g).1);
    }
