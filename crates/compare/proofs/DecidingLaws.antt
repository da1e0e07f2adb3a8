-- DecidingLaws: the table of pairs that searching leaves is the definition's, its first difference is the verdict's, and so the answer is right.
use Rattle.std.proofs.Common.{None, Option as RustOption}
use mathlib.Core.Path.{◌∙◌, ◌≡◌, ap, ap₂, refl, subst, sym}
use mathlib.Core.Bool.{Bool, cond, false, not, true}
use mathlib.Core.List.{List, ◌++◌, map}
use mathlib.Core.Option.{Option, some-injective, none, some}
use Prim.Native.Nat.{ℕ, ◌≤◌, ◌<◌}
use native.Mathlib.Omega.{arith}
use lib.Dec.{T, eqb}
use lib.ListN.{drop, get_or, get_elem?, length}
use Rattle.automata.specs.Automaton.{Automaton, letters}
use Rattle.automata.specs.Live.{meets}
use Rattle.automata.specs.Pairs.{Pair, answers_pass, differ, different, first_accepts, first_passing, judged, onward, pair_of, pairs, same_pair, second_accepts, shown, taker_of, verdict}
use Rattle.automata.specs.Search.{Entry, entries, first_of}
use Rattle.automata.specs.Unfolding.{configurations, final_set, live_set, plain_arcs}
use Rattle.automata.proofs.Laws.{First, at, first_of-first, get_elem?-some, nowhere, same-many, shown-many}
use Rattle.word_layout.specs.declared.SetTable.{SetTable}
use Rattle.live_table.specs.Entries.{Holds, Side, Tree, along, begin, side_of}
use Rattle.live_letters.specs.Meeting.{Outcome}
use Rattle.compare_search.specs.Searching.{Both}
use Rattle.word_sets.specs.Sets.{view}
use Rattle.compare_witness.specs.Spelled.{alone, differs_by, taker_by, word_of}
use Rattle.compare_witness.proofs.Laws.{Judges, judge_entry, spelled-word}
use Rattle.table_sets.specs.Stepping.{Tells}
use Rattle.file_fields.specs.declared.Reason.TheVariants.{TooManyLiveSets}
use Rattle.compare_promise.specs.Comparing.{count_refusals, refused}
use Rattle.compare.specs.Answers.{Answers}
use Rattle.compare.specs.Loading.{Comparable}
use Rattle.compare.specs.declared.loading.Standing.{Standing}
use Rattle.compare_promise.specs.declared.Comparison.TheVariants.{Different, Same}
use Rattle.compare.proofs.Verdicts.{answers-different, answers-many, answers-same}

abbrev one_two : Bool → ℕ
one_two t = cond t 1 2

-- which of two facts holds alone, if one does
alone-differs : (a b : Bool) → not (eqb (alone a b) 0) ≡ differ a b
unfolding alone
alone-differs true true = refl
alone-differs true false = refl
alone-differs false true = refl
alone-differs false false = refl

alone-taker : (a b : Bool) → T (not (eqb (alone a b) 0)) → alone a b ≡ one_two a
unfolding alone
alone-taker true true t = absurd t
alone-taker true false t = refl
alone-taker false true t = refl
alone-taker false false t = absurd t

-- the first that passes a test does
first_passes : {A : Type 0} {f : A → Bool} {l : List A} {o : Option A} (e : A) → First f l o → o ≡ some e → T (f e)
first_passes e (nowhere h) q = let z : ◌≡◌ {A = ℕ} 0 1 = cc in absurd (omega arith)
first_passes {f = f} e (at i x p t h) q = subst (λ y. T (f y)) (some-injective x e q) t

module _ {x y : Automaton} {L : ℕ} {w₀ : List ℕ} {one two : Standing} {bytes : List ℕ} (P : ℕ) (c : Comparable x y L w₀ one two bytes) where
  abbrev s : Side
  s = side_of x L

  abbrev t : Side
  t = side_of y L

  abbrev es : List (Entry Pair)
  es = entries same_pair (along s t) (letters x) (begin s t) P

  abbrev F : List Bool
  F = view (length (configurations x L)) one.finals

  abbrev G : List Bool
  G = view (length (configurations y L)) two.finals

  many-letters : length bytes ≡ letters x
  many-letters = ap length c.spelled

  -- ---- the words
  both : Both (length bytes) s t w₀ one.block two.block
  both = record {
    size₁ = sym c.first.many;
    size₂ = sym c.second.many;
    tells₁ = subst (λ (a : ℕ). Tells a (plain_arcs x L) w₀ one.block) (sym many-letters) c.first.tells;
    tells₂ = subst (λ (a : ℕ). Tells a (plain_arcs y L) w₀ two.block) (same-many x y c.shared ∙ sym many-letters) c.second.tells;
  }

  -- what searching leaves
  pub outcome : (tab : SetTable) (w : List ℕ) (r : RustOption ℕ) → ((s t : Side) → Both (length bytes) s t w₀ one.block two.block → Outcome P tab s t w (entries same_pair (along s t) (length bytes) (begin s t) P) r) → Outcome P tab s t w es r
  outcome tab w r h = subst (λ (a : ℕ). Outcome P tab s t w (entries same_pair (along s t) a (begin s t) P) r) many-letters (h s t both)

  -- ---- the definition's pairs
  shown-is : shown x y L P ≡ es
  unfolding shown onward along pair_of begin live_set
  shown-is = refl

  pairs-many : length (pairs x y L P) ≡ length es
  pairs-many = sym (shown-many x y L P) ∙ ap (λ (l : List (Entry Pair)). length l) shown-is

  -- ---- the final sets
  finals₁ : F ≡ final_set x (configurations x L)
  finals₁ = ap (λ (n : ℕ). view n one.finals) (sym c.first.many) ∙ c.first.final

  finals₂ : G ≡ final_set y (configurations y L)
  finals₂ = ap (λ (n : ℕ). view n two.finals) (sym c.second.many) ∙ c.second.final

  differs_is : (u : Pair) → differs_by F G u ≡ answers_pass x y L differ u
  unfolding taker_by answers_pass first_accepts second_accepts
  differs_is u =
      alone-differs (meets u.left F) (meets u.right G)
      ∙ ap₂ differ (ap (meets u.left) finals₁) (ap (meets u.right) finals₂)

  taker-is : (u : Pair) → T (differs_by F G u) → taker_by F G u ≡ taker_of x y L u
  unfolding taker_by taker_of first_accepts
  taker-is u h = alone-taker (meets u.left F) (meets u.right G) h ∙ ap (λ (S : List Bool). one_two (meets u.left S)) finals₁

  difference_is : first_passing x y L differ P ≡ first_of (λ (e : Entry Pair). differs_by F G e.state) es
  unfolding first_passing
  difference_is =
      ap (λ (l : List (Entry Pair)). first_of (λ (e : Entry Pair). answers_pass x y L differ e.state) l) shown-is
      ∙ ap (λ (h : Entry Pair → Bool). first_of h es) (λ i e. (sym (differs_is e.state)) i)

  -- ---- the answers
  pub answer-many : (old : List ℕ) → P < length es → Answers L P (count_refusals L P x y) x y old old (refused TooManyLiveSets None)
  answer-many old h = answers-many x y L P old (omega (arith, pairs-many))

  -- the table has n pairs
  module _ {tab : SetTable} {w : List ℕ} {n : ℕ} (h : Holds tab s t w n es) (most : n ≤ P) where
    few : length (pairs x y L P) ≤ P
    few = omega (arith, pairs-many, h.many)

    -- none of them differs
    pub answer-same : (old : List ℕ) → first_of (λ (e : Entry Pair). differs_by F G e.state) es ≡ none → Answers L P (count_refusals L P x y) x y old old (Same n)
    unfolding verdict judged
    answer-same old found = answers-same x y L P old n few (ap₂ (judged x y L) (pairs-many ∙ h.many) (difference_is ∙ found))

    -- the first that differs is pair i
    pub answer-different : (i : ℕ) → first_of (λ (e : Entry Pair). differs_by F G e.state) es ≡ get_elem? es i → (a : ℕ) (old new : List ℕ) (taker size : ℕ) → i < n → Tree a tab w n → Judges tab w i one.finals two.finals taker → size ≡ length (word_of tab w i)
        → new ≡ map (λ (l : ℕ). get_or bytes l 0) (word_of tab w i) ++ drop size old → Answers L P (count_refusals L P x y) x y old new (Different n taker size)
    unfolding verdict judged
    answer-different i found a old new taker size low tree told long put =
        answers-different x y L P old new n taker size (word_of tab w i) few is long
        (put ∙ ap (λ (b : List ℕ). map (λ (l : ℕ). get_or b l 0) (word_of tab w i) ++ drop size old) c.spelled)
      where
        e : Entry Pair
        e = (get_elem?-some es i (omega (arith, h.many))).0

        stands : get_elem? es i ≡ some e
        stands = (get_elem?-some es i (omega (arith, h.many))).1

        who : taker_of x y L e.state ≡ taker
        who = sym (taker-is e.state (first_passes e (first_of-first (λ (e : Entry Pair). differs_by F G e.state) es) (found ∙ stands))) ∙ judge_entry tab w i n one.finals two.finals taker told s t es e h stands

        is : verdict x y L P ≡ different n taker (word_of tab w i)
        is =
            ap₂ (judged x y L) (pairs-many ∙ h.many) (difference_is ∙ found ∙ stands)
            ∙ ap₂ (different n) who (sym (spelled-word tab w a n tree s t es h i i e low (omega arith) stands))
