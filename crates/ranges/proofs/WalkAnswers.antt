-- WalkAnswers: the places of a word are walked from the live set of the empty word; what that answers is said of the automaton of the file.
use Rattle.std.proofs.Common.{None, Ok, Option, Some}
use mathlib.Core.Path.{◌∙◌, ◌≡◌, refl, subst, sym}
use mathlib.Core.Bool.{Bool, not, true}
use mathlib.Core.List.{List, [], ◌∷◌}
use Prim.Native.Nat.{◌≤◌, ℕ}
use lib.Dec.{T}
use lib.ListN.{length}
use Rattle.automata.specs.Automaton.{Automaton}
use Rattle.automata.specs.Lists.{any}
use Rattle.automata.specs.Live.{PlainArc, live, meets}
use Rattle.automata.specs.LiveSets.{behind, same_set}
use Rattle.automata.specs.Unfolding.{configurations, final_set, live_set, plain_arcs}
use Rattle.automata.proofs.Laws.{Bool-ext}
use Rattle.fillings.specs.Fillings.{behind_places, many_behind}
use Rattle.file_fields.specs.declared.Counts.{Counts}
use Rattle.format.specs.Decoding.{automaton_of}
use Rattle.word_sets.specs.Sets.{view, ε_closed_set}
use Rattle.word_rows.specs.Rows.{row}
use Rattle.word_layout.specs.Layout.{before_table}
use Rattle.word_layout.specs.declared.Block.{Block}
use Rattle.table.specs.Standing.{Stands}
use Rattle.table.proofs.Laws.{stands-many}
use Rattle.live_search.specs.Exploring.{Sets}
use Rattle.ranges_promise.specs.RangeAnswers.{filled_sets, judged, many_sets, ranges_of}
use Rattle.file_fields.specs.declared.Reason.TheVariants.{TooManyLiveSets}
use Rattle.format.specs.Refusals.{refused}
use Rattle.ranges_promise.specs.declared.Fillings.{Fillings}
use Rattle.ranges_walk.specs.Walking.{SetsIn, Walked}
use Rattle.ranges_walk.proofs.Laws.{start-sets}
use Rattle.ranges.specs.Answers.{sets_answer}
use Rattle.ranges.proofs.Refusals.{sets-beyond, sets-judged}

-- ---- what the definitions say of the live set of the empty word, by any limits
many-are : (L P : ℕ) (x : Automaton) (bytes : List ℕ) → many_sets L P x bytes ≡ many_behind same_set (behind x L) P (live_set x L [] ∷ []) (ranges_of bytes)
unfolding many_sets
many-are L P x bytes = refl

Filled-are : (L : ℕ) (x : Automaton) (bytes : List ℕ) → filled_sets L x bytes ≡ behind_places same_set (behind x L) (live_set x L [] ∷ []) (ranges_of bytes)
unfolding filled_sets
Filled-are L x bytes = refl

empty-live : (x : Automaton) (L : ℕ) → live_set x L [] ≡ live (length (configurations x L)) (plain_arcs x L) []
unfolding live_set
empty-live x L = refl

module _ (file : List ℕ) where
  abbrev x : Automaton
  x = automaton_of file

  -- the live set of the empty word, in row 0, stands before the first place
  pub first-set : {c : Counts} {w start w' : List ℕ} {block : Block} → Stands file c w block
      → (view block.count start ≡ live block.count (plain_arcs x 256) []) × ε_closed_set block.count (plain_arcs x 256) start → row w' 0 0 ≡ start
      → SetsIn file before_table w' 1 (live_set x 256 [] ∷ [])
  first-set {start = start} h f e =
      let g = subst (λ (m : ℕ). (view m start ≡ live m (plain_arcs x 256) []) × ε_closed_set m (plain_arcs x 256) start) (stands-many h) f in
      start-sets file start e (g.0 ∙ sym (empty-live x 256), g.1)

  module _ (w' : List ℕ) (r : Option ℕ) (places : List ℕ) (k : Walked file w' (live_set x 256 [] ∷ []) (ranges_of places) r) where
    pub Walked-over : r ≡ None → refused TooManyLiveSets None ≡ sets_answer 256 512 x places
    Walked-over e =
        let many = subst (Walked file w' (live_set x 256 [] ∷ []) (ranges_of places)) e k in
        sets-beyond 256 512 x places (Bool-ext (many_sets 256 512 x places) true (λ t. tt) (λ t. subst T (sym (many-are 256 512 x places)) many))

    module _ {n : ℕ} (e : r ≡ Some n) where
      walked : Walked file w' (live_set x 256 [] ∷ []) (ranges_of places) (Some n)
      walked = subst (Walked file w' (live_set x 256 [] ∷ []) (ranges_of places)) e k

      pub Walked-few : n ≤ 512
      Walked-few = walked.1.0

      -- the word is judged by the live sets behind the last place
      pub Walked-judged : {c : Counts} {w : List ℕ} {block : Block} (finals : List ℕ) {a : Fillings} → Stands file c w block → view block.count finals ≡ final_set x (configurations x 256)
          → ((count : ℕ) (arcs : List PlainArc) (sets : List (List Bool)) → Sets count arcs before_table w' n sets → a ≡ judged (any (λ S. meets S (view count finals)) sets) (any (λ S. not (meets S (view count finals))) sets))
          → Ok a ≡ sets_answer 256 512 x places
      Walked-judged finals h final judges =
          let here = subst (λ (m : ℕ). view m finals ≡ final_set x (configurations x 256)) (stands-many h) final in
          let held = subst (SetsIn file before_table w' n) (sym (Filled-are 256 x places)) walked.1.1 in
          sets-judged 256 512 x places (many-are 256 512 x places ∙ walked.0) here (judges (length (configurations x 256)) (plain_arcs x 256) (filled_sets 256 x places) held)
