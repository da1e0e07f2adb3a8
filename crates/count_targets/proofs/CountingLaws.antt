-- CountingLaws: the live sets by their numbers while words are counted (specs/Counting.antt): every letter leads from one of them to one of
-- them, and words that are written beside the automaton and the table leave them as they are.
use mathlib.Core.Path.{◌∙◌, ◌≡◌, subst, sym}
use mathlib.Core.Logic.{◌⊎◌, inl, inr, ⊎_elim}
use mathlib.Core.Bool.{Bool}
use mathlib.Core.List.{List, []}
use mathlib.Core.Option.{some}
use Prim.Native.Nat.{◌<◌, ◌≤◌, ℕ}
use native.Mathlib.Omega.{arith}
use lib.ListN.{get_elem?, length}
use Rattle.automata.specs.Automaton.{letters}
use Rattle.automata.specs.LiveSets.{behind, live_sets, same_set}
use Rattle.automata.specs.Unfolding.{live_set, plain_arcs}
use Rattle.automata.proofs.Laws.{at_some, get_elem?-lt, met-closed, met-first, same_set-iff}
use Rattle.file_fields.specs.declared.Counts.{Counts}
use Rattle.format.specs.Decoding.{automaton_of}
use Rattle.file_laws.proofs.Laws.{valid-ranges}
use Rattle.word_fields.specs.Frame.{Kept}
use Rattle.word_sets.specs.Sets.{view, ε_closed_set}
use Rattle.word_layout.specs.Layout.{letter_sets, offsets, set_table}
use Rattle.word_layout.specs.declared.Block.{Block}
use Rattle.table.proofs.Laws.{letters-are, stands-numbered}
use Rattle.live_table.specs.SetRows.{left_row}
use Rattle.live_table.proofs.Laws.{left-kept}
use Rattle.live_letters.proofs.Laws.{table_kept}
use Rattle.live_search.proofs.Laws.{sets_same}
use Rattle.live_building.proofs.Laws.{only_kept, tabled}
use Rattle.count_targets.specs.Counting.{Counting, set_numbered, sets_of}

some_one : {A : Type 0} {x y : A} → some x ≡ some y → x ≡ y
some_one e = cc

module _ {file : List ℕ} {c : Counts} {w : List ℕ} {block : Block} {n : ℕ} (h : Counting file c w block n) where
  pub counting-few : n ≤ 512
  counting-few = h.rows.few

  pub counting-letters : letters (automaton_of file) ≡ c.letters
  counting-letters = letters-are file c (stands-numbered h.stands).valid

  pub counting-letters-few : c.letters ≤ 64
  counting-letters-few = (valid-ranges file c (stands-numbered h.stands).valid).letters

  there : (i : ℕ) → i < n → i < length (sets_of file)
  there i l = subst (λ (m : ℕ). i < m) (sym h.sets.many) l

  ended : length (sets_of file) ≤ 512
  ended = subst (λ (m : ℕ). m ≤ 512) (sym h.sets.many) counting-few

  numbered-at : (i : ℕ) → i < n → get_elem? (sets_of file) i ≡ some (set_numbered file i)
  unfolding set_numbered
  numbered-at i l = at_some (sets_of file) i [] (there i l)

  number_is : (i : ℕ) {R : List Bool} → get_elem? (sets_of file) i ≡ some R → (i < n) × (set_numbered file i ≡ R)
  number_is i e =
      let l : i < n = omega (arith, get_elem?-lt (sets_of file) i e, h.sets.many) in
      (l, some_one (sym (numbered-at i l) ∙ e))

  -- row i has the set with number i
  pub numbered-view : (i : ℕ) → i < n → (view block.count (left_row set_table w i) ≡ set_numbered file i) × ε_closed_set block.count (plain_arcs (automaton_of file) 256) (left_row set_table w i)
  numbered-view i l = h.sets.each i (set_numbered file i) (numbered-at i l)

  -- the first is that of the empty word
  pub numbered-first : (0 < n) × (set_numbered file 0 ≡ live_set (automaton_of file) 256 [])
  unfolding sets_of live_sets
  numbered-first = number_is 0 (met-first same_set same_set-iff (behind (automaton_of file) 256) (letters (automaton_of file)) (live_set (automaton_of file) 256 []) 512)

  -- every letter leads to one of them
  pub numbered-behind : (i l : ℕ) → i < n → l < letters (automaton_of file) → (j : ℕ) × (j < n) × (set_numbered file j ≡ behind (automaton_of file) 256 (set_numbered file i) l)
  unfolding sets_of live_sets
  numbered-behind i l low m =
      let k = met-closed same_set same_set-iff (behind (automaton_of file) 256) (letters (automaton_of file)) (live_set (automaton_of file) 256 []) 512 ended i l (numbered-at i low) m in
      let r = number_is k.0 k.1 in
      (k.0, r.0, r.1)

  -- words below the building's tables were written, or sets of the letters
  pub counting_kept : {w'' : List ℕ} {lo hi : ℕ} → (hi ≤ offsets) ⊎ (letter_sets ≤ lo) → Kept lo hi w w'' → Counting file c w'' block n
  counting_kept {w''} {lo} {hi} beside k =
      let outside : (hi ≤ set_table.rows) ⊎ (letter_sets ≤ lo) = ⊎_elim (λ (x : hi ≤ offsets). inl (omega arith)) (λ (x : letter_sets ≤ lo). inr x) beside in
      let there = tabled {w = w} (omega (arith, h.enough)) in
      record {
        stands = only_kept h.stands h.only (⊎_elim inl (λ (x : letter_sets ≤ lo). inr (omega arith)) beside) k;
        only = h.only;
        enough = omega (arith, h.enough, k.long);
        rows = table_kept there k outside h.rows;
        sets = sets_same (λ i l. left-kept there k outside i (omega (arith, counting-few))) h.sets;
      }
