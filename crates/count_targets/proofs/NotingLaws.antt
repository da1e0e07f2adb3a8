-- NotingLaws: the sets of the letters that a step leaves are live sets, and the numbers that are found for them are theirs.
use mathlib.Core.Path.{◌∙◌, ◌≡◌, ap, refl, sym}
use mathlib.Core.Bool.{Bool}
use mathlib.Core.List.{List}
use Prim.Native.Nat.{◌*◌, ◌+◌, ◌<◌, ℕ}
use native.Mathlib.Decide.{dec_lt}
use native.Mathlib.Omega.{arith}
use Rattle.automata.specs.Live.{by_letter}
use Rattle.automata.specs.LiveSets.{behind}
use Rattle.automata.specs.Unfolding.{plain_arcs}
use Rattle.file_fields.specs.declared.Counts.{Counts}
use Rattle.format.specs.Decoding.{automaton_of}
use Rattle.word_sets.specs.Sets.{in_set, view, ε_closed_set}
use Rattle.word_layout.specs.Layout.{letter_sets, set_table}
use Rattle.word_layout.specs.declared.Block.{Block}
use Rattle.table_sets.specs.Stepping.{set_of}
use Rattle.table.proofs.Laws.{stands-many}
use Rattle.live_table.specs.SetRows.{left_row}
use Rattle.live_letters.proofs.Laws.{same-members}
use Rattle.count_sums.specs.Sums.{target_at}
use Rattle.count_targets.specs.Counting.{Counting, Noted, set_numbered}
use Rattle.count_targets.specs.Targets.{NumberOf, Numbers}
use Rattle.count_targets.proofs.CountingLaws.{counting-letters, numbered-behind, numbered-view}
use Rattle.live_table.proofs.Laws.{same_row}

module _ {file : List ℕ} {c : Counts} {w : List ℕ} {block : Block} {n i : ℕ} (h : Counting file c w block n) (low : i < n) where
  -- u is the set behind letter l
  module _ (u : List ℕ) {l : ℕ} (m : l < c.letters) (is : view block.count u ≡ by_letter block.count (plain_arcs (automaton_of file) 256) (set_numbered file i) l)
      (settled : ε_closed_set block.count (plain_arcs (automaton_of file) 256) u) where
    set-behind : view block.count u ≡ behind (automaton_of file) 256 (set_numbered file i) l
    unfolding behind
    set-behind = is ∙ ap (λ (k : ℕ). by_letter k (plain_arcs (automaton_of file) 256) (set_numbered file i) l) (stands-many h.stands)

    letter-number : {r : ℕ} → NumberOf w n u r → (r < n) × (set_numbered file r ≡ behind (automaton_of file) 256 (set_numbered file i) l)
    letter-number {r} f = go (dec_lt r n)
      where
        go : Dec (r < n) → (r < n) × (set_numbered file r ≡ behind (automaton_of file) 256 (set_numbered file i) l)
        go (yes d) = (d, sym (numbered-view h r d).0 ∙ ap (view block.count) (f.hit d) ∙ set-behind)
        go (no d) =
            let k = numbered-behind h i l low (omega (arith, counting-letters h)) in
            let v = numbered-view h k.0 k.1 in
            let same = same-members (left_row set_table w k.0) u v.1.0 settled.0 (v.0 ∙ k.2 ∙ sym set-behind) in
            absurd (f.miss (omega arith) k.0 k.1 same (λ j. ap (λ (s : List ℕ). in_set s j) (same_row set_table refl w k.0) ∙ same j))

  -- the numbers of all letters, after a step from the set with number i
  pub numbers-noted : (set w'' : List ℕ) (met slot : ℕ) → view block.count set ≡ set_numbered file i
      → ((l : ℕ) → l < c.letters → (view block.count (set_of w letter_sets met l) ≡ by_letter block.count (plain_arcs (automaton_of file) 256) (view block.count set) l)
      × ε_closed_set block.count (plain_arcs (automaton_of file) 256) (set_of w letter_sets met l))
      → Numbers w n met w'' (slot * c.letters) c.letters → Noted file n c.letters w'' i slot
  numbers-noted set w'' met slot e steps f = record { low = λ l m. (each l m).0; leads = λ l m. (each l m).1 }
    where
      each : (l : ℕ) → l < c.letters → (target_at w'' (slot * c.letters + l) < n) × (set_numbered file (target_at w'' (slot * c.letters + l)) ≡ behind (automaton_of file) 256 (set_numbered file i) l)
      each l m =
          letter-number (set_of w letter_sets met l) m ((steps l m).0 ∙ ap (λ (S : List Bool). by_letter block.count (plain_arcs (automaton_of file) 256) S l) e) (steps l m).1 (f l m)
