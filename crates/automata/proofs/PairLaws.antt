-- PairLaws: the pairs that the search meets are the pairs of words; their number is exact, and refusal 23 says what it should; the first
-- pair whose answers pass a test has the first word whose answers do, whatever the test.
use mathlib.Core.Path.{◌∙◌, ◌≡◌, ap, refl, sym}
use mathlib.Core.Logic.{◌↔◌}
use Prim.Native.Nat.{◌<◌, ◌≤◌, ℕ}
use lib.Dec.{T}
use lib.ListN.{length, length-map}
use mathlib.Core.Bool.{Bool, beq}
use mathlib.Core.List.{List, [], ◌∷◌}
use mathlib.Core.Option.{Option, none, some}
use native.Mathlib.Decide.{dec_lt}
use native.Mathlib.Omega.{arith}
use Rattle.automata.specs.Automaton.{Automaton, letters}
use Rattle.automata.specs.Counting.{Exactly, MoreThan}
use Rattle.automata.specs.Live.{live, live_from}
use Rattle.automata.specs.Pairs.{Pair, SomePair, answers_pass, first_accepts, first_passing, onward, pair_of, pairs, same_pair, second_accepts, shown}
use Rattle.automata.specs.Search.{Entry, Finds, Over, Passes, leads}
use Rattle.automata.specs.Unfolding.{accepted, configurations, live_set, plain_arcs}
use Rattle.automata.specs.WordOrder.{Before, Earliest}
use Rattle.automata.proofs.CountingLaws.{counts_same, more_same, not_more}
use Rattle.automata.proofs.ListLaws.{and-iff, beq-iff, same_by-iff}
use Rattle.automata.proofs.SearchLaws.{Led, entries-met, first_found, met-counts, met-more}
use Rattle.automata.proofs.WordOrderLaws.{earliest-same}

pub same_pair-iff : (p q : Pair) → T (same_pair p q) ↔ (p ≡ q)
unfolding same_pair
same_pair-iff p q = simp (and-iff, same_by-iff beq beq-iff)
    (λ e. λ i. record { left = e.0 i; right = e.1 i }, λ e. (ap (λ (p : Pair). p.left) e, ap (λ (p : Pair). p.right) e))

module _ (x y : Automaton) (L : ℕ) where
  leads-pair : (p : Pair) (w : List ℕ)
      → leads (onward x y L) p w ≡ record { left = live_from (length (configurations x L)) (plain_arcs x L) p.left w; right = live_from (length (configurations y L)) (plain_arcs y L) p.right w }
  unfolding leads live_from onward
  leads-pair p [] = refl
  leads-pair p (a ∷ w) = leads-pair (onward x y L p a) w

  -- the pair of a word is where the word leads from the pair of the empty word
  pub leads-pair_of : (w : List ℕ) → leads (onward x y L) (pair_of x y L []) w ≡ pair_of x y L w
  unfolding pair_of live_set live
  leads-pair_of w = leads-pair (pair_of x y L []) w

  Led-some : (p : Pair) → Led same_pair same_pair-iff (onward x y L) (letters x) (pair_of x y L []) p ↔ SomePair x y L p
  Led-some p = (
    λ l. record { word = l.word; over = l.over; is = sym (leads-pair_of l.word) ∙ l.leads_there },
    λ s. record { word = s.word; over = s.over; leads_there = leads-pair_of s.word ∙ s.is },
  )

  -- within the limit the search meets each pair of a word once
  pub pairs-count : (P : ℕ) → length (pairs x y L P) ≤ P → Exactly (SomePair x y L) (length (pairs x y L P))
  unfolding pairs
  pairs-count P h = counts_same Led-some (met-counts same_pair same_pair-iff (onward x y L) (letters x) (pair_of x y L []) P h)

  -- refusal 23: the search goes beyond the limit just if there are more pairs
  pub pairs-more : (P : ℕ) → (P < length (pairs x y L P)) ↔ MoreThan (SomePair x y L) P
  unfolding pairs
  pairs-more P = (
    λ h. more_same Led-some (met-more same_pair same_pair-iff (onward x y L) (letters x) (pair_of x y L []) P h),
    λ m. go m (dec_lt P (length (pairs x y L P))),
  )
    where
      go : MoreThan (SomePair x y L) P → Dec (P < length (pairs x y L P)) → P < length (pairs x y L P)
      go m (yes h) = h
      go m (no h) = absurd (not_more (pairs-count P (omega arith)) (omega arith) m)

  pub shown-many : (P : ℕ) → length (shown x y L P) ≡ length (pairs x y L P)
  unfolding shown pairs
  shown-many P =
      sym (length-map (shown x y L P) (λ (e : Entry Pair). e.state))
      ∙ ap (λ (l : List Pair). length l) (entries-met same_pair (onward x y L) (letters x) (pair_of x y L []) P)

  -- ---- a test of the two automata's answers
  module _ (test : Bool → Bool → Bool) where
    -- the word is over the letters, and its answers pass
    abbrev pub AnswersPass : List ℕ → Type 0
    AnswersPass w = Over (letters x) w × T (test (accepted x L w) (accepted y L w))

    -- there is no pair that passes, and no word does; or its word has that pair, and is the first of the words that pass
    abbrev pub FindsPair : Option (Entry Pair) → Type 0
    FindsPair none = (w : List ℕ) → ¬ AnswersPass w
    FindsPair (some e) = (e.state ≡ pair_of x y L e.word) × Earliest Before AnswersPass e.word

    passing : (w : List ℕ) → Passes (onward x y L) (letters x) (pair_of x y L []) (answers_pass x y L test) w ↔ AnswersPass w
    unfolding answers_pass first_accepts second_accepts accepted pair_of
    passing w = rw (leads-pair_of w) (λ p. p, λ p. p)

    pub first-passing : (P : ℕ) → length (pairs x y L P) ≤ P → FindsPair (first_passing x y L test P)
    unfolding first_passing shown
    first-passing P few = go (first_passing x y L test P)
        (first_found same_pair (onward x y L) (letters x) (pair_of x y L []) same_pair-iff (answers_pass x y L test) P (omega (arith, shown-many P)))
      where
        go : (o : Option (Entry Pair)) → Finds (onward x y L) (letters x) (pair_of x y L []) (answers_pass x y L test) o → FindsPair o
        go none h = λ w p. h w ((passing w).1 p)
        go (some e) h = (sym h.0 ∙ leads-pair_of e.word, earliest-same e.word passing h.1)
