-- EndLaws: words of no letters are counted by the sets that are accepted; and the count of the first set is that of the automaton.
use mathlib.Core.Path.{◌∙◌, ◌≡◌, ap, ap₂, refl, subst, sym}
use mathlib.Core.Logic.{inl}
use mathlib.Core.Bool.{Bool, cond}
use mathlib.Core.List.{List}
use Prim.Native.Nat.{◌+◌, ◌<◌, ◌≤◌, ℕ}
use native.Mathlib.Decide.{ℕ_discrete}
use native.Mathlib.Omega.{arith}
use lib.ListN.{get_or, length, set}
use lib.Seq.{get_or-set_other, get_or-set_same}
use Rattle.automata.specs.Automaton.{Automaton}
use Rattle.automata.specs.Lengths.{accepted_many, many_from}
use Rattle.automata.specs.Live.{meets}
use Rattle.automata.specs.LiveSets.{accepts_set, behind}
use Rattle.automata.specs.Unfolding.{configurations, final_set}
use Rattle.file_fields.specs.declared.Counts.{Counts}
use Rattle.format.specs.Decoding.{automaton_of}
use Rattle.word_fields.specs.Frame.{Kept}
use Rattle.word_fields.proofs.Laws.{kept_set, kept_then, kept-wider}
use Rattle.word_sets.specs.Sets.{Within, view}
use Rattle.word_layout.specs.Layout.{counts, letter_sets, set_table}
use Rattle.word_layout.specs.declared.Block.{Block}
use Rattle.live_table.specs.SetRows.{left_row}
use Rattle.live_table.proofs.Laws.{left-kept}
use Rattle.live_building.proofs.Laws.{tabled}
use Rattle.count_targets.specs.Counting.{Counting, set_numbered}
use Rattle.count_targets.proofs.Laws.{counting-letters, numbered-first, numbered-view}
use Rattle.count_rounds.specs.Rounds.{Counted, Ended, ends_in, many_of}

-- ---- the first i ends are counted
pub record Ending (finals w₀ : List ℕ) (i : ℕ) (w : List ℕ) : Type 0 where
  pub kept : Kept counts (counts + 512) w₀ w
  pub ended : Ended w₀ i finals w

pub Ending-more : {n i one : ℕ} {finals w₀ w : List ℕ} (u : List ℕ) → n ≤ 512 → letter_sets ≤ length w₀ → i < n → Ending finals w₀ i w → u ≡ left_row set_table w i
    → ((count : ℕ) → Within count u → one ≡ ends_in count u finals) → Ending finals w₀ (i + 1) (set w (counts + i) one)
Ending-more {n} {i} {one} {finals} {w₀} {w} u few long low b is ends = record {
  kept = kept_then b.kept (kept-wider (omega arith) (omega arith) (kept_set w (counts + i) one));
  ended = λ k j h v. go k j h v (ℕ_discrete j i);
}
  where
    here : u ≡ left_row set_table w₀ i
    here = is ∙ left-kept (tabled {w = w₀} long) b.kept (inl (omega arith)) i (omega arith)

    go : (k j : ℕ) → j < i + 1 → Within k (left_row set_table w₀ j) → Dec (j ≡ i) → get_or (set w (counts + i) one) (counts + j) 0 ≡ ends_in k (left_row set_table w₀ j) finals
    go k j h v (yes e) =
        let v' = subst (λ (q : ℕ). Within k (left_row set_table w₀ q)) e v in
        ap (λ (q : ℕ). get_or (set w (counts + i) one) (counts + q) 0) e ∙ get_or-set_same w (counts + i) one 0 (omega (arith, b.kept.long))
        ∙ ends k (subst (λ (s : List ℕ). Within k s) (sym here) v') ∙ ap (λ (s : List ℕ). ends_in k s finals) here ∙ ap (λ (q : ℕ). ends_in k (left_row set_table w₀ q) finals) (sym e)
    go k j h v (no d) = get_or-set_other w (counts + i) (counts + j) one 0 (λ p. d (omega arith)) ∙ b.ended k j (omega arith) v

none_more : (file : List ℕ) (a i : ℕ) → many_of file a 0 i ≡ cond (accepts_set (automaton_of file) 256 (set_numbered file i)) 1 0
unfolding many_of many_from
none_more file a i = refl

accepts-is : (x : Automaton) (L : ℕ) (S : List Bool) → accepts_set x L S ≡ meets S (final_set x (configurations x L))
unfolding accepts_set
accepts-is x L S = refl

ends_is : (count : ℕ) (u finals : List ℕ) → ends_in count u finals ≡ cond (meets (view count u) (view count finals)) 1 0
unfolding ends_in
ends_is count u finals = refl

module _ {file : List ℕ} {c : Counts} {w : List ℕ} {block : Block} {n : ℕ} (h : Counting file c w block n) where
  -- the ends are the counts of words of no letters
  pub ends-counted : (finals : List ℕ) {w'' : List ℕ} → view block.count finals ≡ final_set (automaton_of file) (configurations (automaton_of file) 256) → Ended w n finals w'' → Counted file c.letters w'' counts n 0
  ends-counted finals {w''} final f = record { each = each }
    where
      each : (i : ℕ) → i < n → get_or w'' (counts + i) 0 ≡ many_of file c.letters 0 i
      each i l =
          let v = numbered-view h i l in
          f block.count i l v.1.0 ∙ ends_is block.count (left_row set_table w i) finals
          ∙ ap (λ (b : Bool). cond b 1 0) (ap₂ meets v.0 final ∙ sym (accepts-is (automaton_of file) 256 (set_numbered file i))) ∙ sym (none_more file c.letters i)

  -- the first set is that of the empty word
  pub first_counted : (k : ℕ) (v : List ℕ) → Counted file c.letters v counts n k → get_or v 0 0 ≡ accepted_many (automaton_of file) 256 k
  unfolding many_of accepted_many
  first_counted k v f =
      let first = numbered-first h in
      f.each 0 first.0
      ∙ ap₂ (λ (a : ℕ) (S : List Bool). many_from (behind (automaton_of file) 256) a (accepts_set (automaton_of file) 256) k S) (sym (counting-letters h)) first.1
