-- RoundLaws: a round. The words that are one letter longer are, over all letters, those from the sets that the letters lead to; no sum exceeds
-- the largest number of 64 bits.
use mathlib.Core.Path.{◌∙◌, ◌≡◌, ap}
use mathlib.Core.Bool.{Bool}
use mathlib.Core.List.{List}
use Prim.Native.Nat.{◌*◌, ◌+◌, ◌<◌, ◌≤◌, ℕ}
use native.Mathlib.Decide.{ℕ_discrete}
use native.Mathlib.Numerals.{add-one}
use native.Mathlib.Omega.{arith}
use lib.ListN.{get_or, set}
use lib.Seq.{get_or-set_other, get_or-set_same}
use Rattle.automata.specs.Lengths.{many_from}
use Rattle.automata.specs.LiveSets.{accepts_set, behind}
use Rattle.automata.proofs.Laws.{many-fits, sum_ext}
use Rattle.file_fields.specs.declared.Counts.{Counts}
use Rattle.format.specs.Decoding.{automaton_of}
use Rattle.word_fields.specs.Frame.{Kept}
use Rattle.word_fields.proofs.Laws.{kept_set}
use Rattle.word_layout.specs.Layout.{counts, letter_sets, next_counts, targets}
use Rattle.word_layout.specs.declared.Block.{Block}
use Rattle.count_sums.specs.Sums.{Summable, target_at, targets_sum}
use Rattle.count_targets.specs.Counting.{Noted, set_numbered}
use Rattle.count_targets.proofs.Laws.{counting-few}
use Rattle.count_rounds.specs.Rounds.{Counted, Fitting, Rounds, Summing, many_of}
use Rattle.count_rounds.proofs.Slots.{rounds-kept, slot-room}

-- THE LAW of a round
pub round_sum : (file w : List ℕ) {n a k i slot : ℕ} → Noted file n a w i slot → Counted file a w counts n k → targets_sum w a (slot * a) ≡ many_of file a (k + 1) i
unfolding targets_sum many_of many_from
round_sum file w {n} {a} {k} {i} {slot} noted counted =
    rw (add-one k)
    (sum_ext a _ _ (λ l h. counted.each (target_at w (slot * a + l)) (noted.low l h) ∙ ap (λ (S : List Bool). many_from (behind (automaton_of file) 256) a (accepts_set (automaton_of file) 256) k S) (noted.leads l h)))

-- no count is too large
pub many-fit : (file : List ℕ) (a size k i : ℕ) → Fitting a size → k ≤ size → many_of file a k i ≤ 18446744073709551615
unfolding many_of
many-fit file a size k i fits h = many-fits (behind (automaton_of file) 256) a (accepts_set (automaton_of file) 256) size 18446744073709551615 (omega arith) fits k h (set_numbered file i)

module _ (file : List ℕ) (c : Counts) (block : Block) (n kept : ℕ) where
  -- the sum over the letters can be taken
  pub summable : {w w₀ : List ℕ} (i : ℕ) {slot : ℕ} → Rounds file c w block n kept → Summing file c.letters w₀ n → ((j : ℕ) → j < 512 → get_or w (counts + j) 0 ≡ get_or w₀ (counts + j) 0) → slot ≤ kept
      → Noted file n c.letters w i slot → Summable w c.letters (slot * c.letters) 18446744073709551615
  summable {w} {w₀} i {slot} r s same low noted =
      let few = counting-few r.counting in
      let counted : Counted file c.letters w counts n s.passed = record { each = λ j h. same j (omega (arith, few)) ∙ s.counted.each j h } in
      record {
        room = omega (arith, r.counting.enough);
        fields = slot-room c.letters slot kept low r.room;
        numbers = λ l h. omega (arith, noted.low l h, few);
        fits = omega (arith, round_sum file w noted counted, many-fit file c.letters s.size (s.passed + 1) i s.fits (omega (arith, s.below)));
      }

  -- ---- the counts of the first i sets are made
  pub record Nexting (w₀ : List ℕ) (i : ℕ) (w : List ℕ) : Type 0 where
    pub rounds : Rounds file c w block n kept
    pub same : (j : ℕ) → j < 512 → get_or w (counts + j) 0 ≡ get_or w₀ (counts + j) 0
    pub done : (k : ℕ) → Counted file c.letters w₀ counts n k → (j : ℕ) → j < i → get_or w (next_counts + j) 0 ≡ many_of file c.letters (k + 1) j

  -- the targets of set i are in the words w₁, in the slot; their sum is written
  pub Nexting-more : {w₀ w w₁ : List ℕ} {i slot sum : ℕ} → i < n → Nexting w₀ i w → Kept targets (letter_sets + 256) w w₁ → Rounds file c w₁ block n kept → Noted file n c.letters w₁ i slot
      → sum ≡ targets_sum w₁ c.letters (slot * c.letters) → Nexting w₀ (i + 1) (set w₁ (next_counts + i) sum)
  Nexting-more {w₀} {w} {w₁} {i} {slot} {sum} low b k r noted e = record {
    rounds = rounds-kept (omega (arith, few)) (kept_set w₁ (next_counts + i) sum) r;
    same = λ j h. get_or-set_other w₁ (next_counts + i) (counts + j) sum 0 (λ p. omega arith) ∙ same₁ j h;
    done = λ m f j h. go m f j h (ℕ_discrete j i);
  }
    where
      few : n ≤ 512
      few = counting-few r.counting

      same₁ : (j : ℕ) → j < 512 → get_or w₁ (counts + j) 0 ≡ get_or w₀ (counts + j) 0
      same₁ j h = k.below (counts + j) (omega arith) ∙ b.same j h

      go : (m : ℕ) → Counted file c.letters w₀ counts n m → (j : ℕ) → j < i + 1 → Dec (j ≡ i) → get_or (set w₁ (next_counts + i) sum) (next_counts + j) 0 ≡ many_of file c.letters (m + 1) j
      go m f j h (yes p) =
          rw p (get_or-set_same w₁ (next_counts + i) sum 0 (omega (arith, few, r.counting.enough)) ∙ e
          ∙ round_sum file w₁ noted (record { each = λ q l. same₁ q (omega (arith, few)) ∙ f.each q l }))
      go m f j h (no d) = get_or-set_other w₁ (next_counts + i) (next_counts + j) sum 0 (λ p. d (omega arith)) ∙ k.below (next_counts + j) (omega (arith, few)) ∙ b.done m f j (omega arith)

-- the counts are taken over
pub taken-counted : {file : List ℕ} {a n k : ℕ} {w w'' : List ℕ} → ((i : ℕ) → i < n → get_or w'' (counts + i) 0 ≡ get_or w (next_counts + i) 0) → Counted file a w next_counts n k → Counted file a w'' counts n k
taken-counted same f = record { each = λ i h. same i h ∙ f.each i h }
