-- Theorems: the theorems of this crate in one place, each in a statement that can be read by itself. Their proofs stand in the modules named.
-- Read specs/ first: Automaton, Letters, Words, then the rest in the order of specs/Lib.antt. L and P are limits, whatever their values.
use mathlib.Core.Path.{◌≡◌}
use mathlib.Core.Logic.{◌↔◌}
use Prim.Native.Nat.{◌+◌, ◌^◌, ◌<◌, ◌≤◌, suc, ℕ}
use lib.Dec.{T}
use lib.ListN.{get_elem?, length}
use mathlib.Core.Bool.{Bool}
use mathlib.Core.List.{List, Memᴰ, map}
use mathlib.Core.Option.{Option, some}
use native.Mathlib.Omega.{arith}
use Rattle.automata.specs.Automaton.{Automaton, Configuration, DoesAll, Op, Produces, Reachable, Run, SameEnds, WellFormed, letters, start}
use Rattle.automata.specs.Counting.{Apart, Exactly, MoreThan}
use Rattle.automata.specs.Examples.{Holds, Row, rows}
use Rattle.automata.specs.Exploration.{Distinct, Reach, known, number}
use Rattle.automata.specs.Joins.{closure, concatenation, intersection, union}
use Rattle.automata.specs.Languages.{Concatenation, Intersection, Star, Union}
use Rattle.automata.specs.Letters.{OneLetter, key, keys}
use Rattle.automata.specs.Lengths.{AcceptedOf, RejectedOf, accepted_many, rejected_many}
use Rattle.automata.specs.Live.{count, in?}
use Rattle.automata.specs.LiveSets.{SetAfter, live_sets}
use Rattle.automata.specs.Pairs.{Right, SomePair, pair_of, pairs, verdict}
use Rattle.automata.specs.Performing.{Move, perform, successors}
use Rattle.automata.specs.Search.{Entry, Finds, Over, entries, first_of, leads}
use Rattle.automata.specs.Unfolding.{accepted_bytes, configurations, leaving, live_count, live_set, plain_arcs, same_configuration, unfolded}
use Rattle.automata.specs.WordOrder.{Before, Earliest}
use Rattle.automata.specs.Words.{Language, LiveAfter, SameLetters}
use Rattle.automata.proofs.CountingLaws.{counts-unique, not_more}
use Rattle.automata.proofs.ExampleLaws.{rows-hold}
use Rattle.automata.proofs.ExplorationLaws.{known-distinct, known-sound, walk-counts, walk_more}
use Rattle.automata.proofs.LanguageLaws.{closure-language, concatenation-language, intersection-language, unfolded-language, union-language}
use Rattle.automata.proofs.LengthLaws.{accepted-counts, both-many, letterless, rejected-counts}
use Rattle.automata.proofs.LetterLaws.{key-iff}
use Rattle.automata.proofs.LiveSetLaws.{sets_more}
use Rattle.automata.proofs.MembershipLaws.{accepted_bytes-iff, live-counts, live_count-counts}
use Rattle.automata.proofs.PairLaws.{pairs-more}
use Rattle.automata.proofs.PlainArcLaws.{leaving-passing}
use Rattle.automata.proofs.PairSets.{live-configuration, same_live, same-pair}
use Rattle.automata.proofs.PerformingLaws.{perform-iff, successors-iff}
use Rattle.automata.proofs.ReachLaws.{configurations-count, configurations-more}
use Rattle.automata.proofs.SearchLaws.{entry-true, first_found, word-met}
use Rattle.automata.proofs.VerdictLaws.{verdict-right}
use Rattle.automata.proofs.WordOrderLaws.{before-not, earliest-one, earliest-shortest}

-- ---- letters (LetterLaws)
-- The keys of two bytes are the same just if these stand for one letter: the same byte, or a capital and its small letter.
pub one-letter : (x y : ℕ) → (key x ≡ key y) ↔ OneLetter x y
one-letter = key-iff

-- ---- one step (PerformingLaws)
-- Performing a list of operations is document 003's relation.
pub performing : (ops : List Op) (u v : List ℕ) → (perform ops u ≡ some v) ↔ DoesAll ops u v
performing = perform-iff

-- The successors of a configuration are what it produces.
pub producing : (x : Automaton) (c : Configuration) (α : Option ℕ) (d : Configuration) → Memᴰ (record { letter = α; to = d }) (successors x c) ↔ Produces x c α d
producing = successors-iff

-- ---- exploration, of anything (ExplorationLaws): `same` is equality, and nothing stands twice in `start`
module _ {X : Type 0} (same : X → X → Bool) (eq : (x y : X) → T (same x y) ↔ (x ≡ y)) (next : X → List X) (start : List X) (d : Distinct same start) where
  -- No element is numbered twice, and each that is numbered can be reached.
  pub exploring : (n : ℕ) → Distinct same (known same next start n) × ((x : X) → Memᴰ x (known same next start n) → Reach next start x)
  exploring n = (known-distinct same next start d n, λ x. known-sound same next start n)

  -- When the walk has ended within L, exactly what can be reached is numbered; else there is more than that to reach.
  pub exploring_counts : (L : ℕ) → length (known same next start L) ≤ L → Exactly (Reach next start) (length (known same next start L))
  exploring_counts = walk-counts same eq next start d

  pub exploring_more : (L : ℕ) → L < length (known same next start L) → MoreThan (Reach next start) L
  exploring_more = walk_more same eq next start d

-- ---- exploring by letters, in letter order, with the words by which states are met: over any states, and any test of them (SearchLaws)
module _ {Q : Type 0} (same : Q → Q → Bool) (eq : (p r : Q) → T (same p r) ↔ (p ≡ r)) (δ : Q → ℕ → Q) (a : ℕ) (q : Q) (n : ℕ) (fits : length (entries same δ a q n) ≤ n) where
  -- Each word leads to its state, and no word that leads to a state comes before the one by which that state was met.
  pub searching : ((e : Entry Q) → Memᴰ e (entries same δ a q n) → leads δ q e.word ≡ e.state)
      × ((w : List ℕ) → Over a w → (e : Entry Q) × Memᴰ e (entries same δ a q n) × (e.state ≡ leads δ q w) × (¬ Before w e.word))
  searching = (
    λ e m. (entry-true same δ a q n e m).0,
    λ w o. let s = word-met same δ a q eq n fits w o in (s.entry, s.among, s.leads_there, before-not s.entry.word w s.order),
  )

  -- The first state met that passes a test was met by the first of all words that lead to such a state; where none was met, no word does.
  pub searching_first : (test : Q → Bool) → Finds δ a q test (first_of (λ e. test e.state) (entries same δ a q n))
  searching_first test = first_found same δ a q eq test n fits

-- ---- the order of words (WordOrderLaws)
-- The first word that has a property is one word, and every word that has it is at least as long.
pub ordering : {P : List ℕ → Type 0} (v : List ℕ) → Earliest Before P v → ((w : List ℕ) → Earliest Before P w → v ≡ w) × ((w : List ℕ) → P w → length v ≤ length w)
ordering v e = (λ w f. earliest-one v w e f, earliest-shortest v e)

-- ---- counting (CountingLaws)
-- A number of things is one number, and exactly n things are not more than n.
pub counting-unique : {A : Type 0} {P : A → Type 0} {m n : ℕ} → Exactly P m → Exactly P n → m ≡ n
counting-unique = counts-unique

pub counting-exclusive : {A : Type 0} {P : A → Type 0} {n : ℕ} → Exactly P n → ¬ MoreThan P n
counting-exclusive c = not_more c (omega arith)

-- ---- an automaton whose walk ends within L
-- Its configurations are those that runs reach; beyond L there are more (ReachLaws: refusal 21).
pub reaching : (x : Automaton) (L : ℕ) → length (configurations x L) ≤ L → Exactly (Reachable x) (length (configurations x L))
reaching = configurations-count

pub reaching_more : (x : Automaton) (L : ℕ) → (L < length (configurations x L)) ↔ MoreThan (Reachable x) L
reaching_more = configurations-more

-- The plain arcs of configuration number i are its passing arcs, in the order of the file, repeats kept, each with its letter and the
-- number of the configuration that it leads to (PlainArcLaws): refusal 22 counts them, and an unfolded file lists them.
pub plain-arcs : (x : Automaton) (L i : ℕ) {c : Configuration} → get_elem? (configurations x L) i ≡ some c
    → leaving i (plain_arcs x L) ≡ map (λ (m : Move). record { source = i; letter = m.letter; target = number same_configuration m.to (configurations x L) }) (successors x c)
plain-arcs = leaving-passing

module _ (x : Automaton) (L : ℕ) (fits : length (configurations x L) ≤ L) where
  -- Configuration number j is in the live set of w just if a run that spells w ends there (PairSets).
  pub living : (w : List ℕ) (j : ℕ) (c : Configuration) → get_elem? (configurations x L) j ≡ some c → T (in? (live_set x L w) j) ↔ Run (Produces x) (start x) w c
  unfolding live_set
  living = live-configuration x L fits

  -- The number live is that of the configurations that runs spelling the word end in (MembershipLaws).
  pub living_counts : (w : List ℕ) → Exactly (λ (c : Configuration). Run (Produces x) (start x) w c) (count (live_set x L w))
  living_counts = live-counts x L fits

  -- Two words have one live set just if runs that spell them end in the same configurations (PairSets).
  pub living_same : (v w : List ℕ) → (live_set x L v ≡ live_set x L w) ↔ SameEnds x v w
  unfolding live_set
  living_same = same_live x L fits

  -- A word of bytes is computed to be accepted just if it is in the language; the number live is that of its live set.
  pub membership : Apart (keys x.alphabet) → (s : List ℕ) → (T (accepted_bytes x L s) ↔ Language x s) × Exactly (LiveAfter x s) (live_count x L s)
  membership apart s = (accepted_bytes-iff x apart L fits s, live_count-counts x apart L fits s)

  -- The unfolded automaton has exactly the same words (UnfoldedLaws, LanguageLaws).
  pub unfolding_language : (s : List ℕ) → Language (unfolded x L) s ↔ Language x s
  unfolding_language = unfolded-language x L fits

  -- The numbers of words of n letters that are accepted, and that are not, are those numbers (LengthLaws); words count, not runs.
  pub counting-words : (n : ℕ) → Exactly (AcceptedOf x n) (accepted_many x L n) × Exactly (RejectedOf x n) (rejected_many x L n)
  counting-words n = (accepted-counts x L fits n, rejected-counts x L fits n)

-- The two together are all words of n letters: with no letters one word of length 0, and none of any other. Beyond P there are more live
-- sets of v and some letters more (LiveSetLaws: refusal 23).
pub counting-all : (x : Automaton) (L n : ℕ) → accepted_many x L n + rejected_many x L n ≡ letters x ^ n
counting-all = both-many

pub counting-letterless : (x : Automaton) (L : ℕ) → letters x ≡ 0
    → (accepted_many x L 0 + rejected_many x L 0 ≡ 1) × ((n : ℕ) → accepted_many x L (suc n) + rejected_many x L (suc n) ≡ 0)
counting-letterless = letterless

pub counting_more : (x : Automaton) (L : ℕ) (v : List ℕ) (P : ℕ) → (P < length (live_sets x L (live_set x L v) P)) ↔ MoreThan (SetAfter x L v) P
counting_more = sets_more

-- ---- the joins, of automata with the same letters, for words of every length (LanguageLaws)
module _ (a b : Automaton) (va : WellFormed a) (vb : WellFormed b) (shared : SameLetters a b) where
  pub uniting : (s : List ℕ) → Language (union a b) s ↔ Union (Language a) (Language b) s
  uniting = union-language a b va vb shared

  pub concatenating : (s : List ℕ) → Language (concatenation a b) s ↔ Concatenation (Language a) (Language b) s
  concatenating = concatenation-language a b va vb shared

  pub intersecting : (s : List ℕ) → Language (intersection a b) s ↔ Intersection (Language a) (Language b) s
  intersecting = intersection-language a b va vb shared

pub closing : (a : Automaton) → WellFormed a → (s : List ℕ) → Language (closure a) s ↔ Star (Language a) s
closing = closure-language

-- ---- comparing (VerdictLaws, PairLaws)
-- Within the limits the verdict is right: see `Right` in specs/Pairs.antt. Beyond P there are more pairs (refusal 23).
pub comparing : (x y : Automaton) (L P : ℕ) → WellFormed x → WellFormed y → letters y ≡ letters x → length (configurations x L) ≤ L → length (configurations y L) ≤ L
    → length (pairs x y L P) ≤ P → Right x y L (verdict x y L P)
comparing x y L P wx wy = verdict-right x y L P wx.lettered wy.lettered

pub comparing_more : (x y : Automaton) (L P : ℕ) → (P < length (pairs x y L P)) ↔ MoreThan (SomePair x y L) P
comparing_more = pairs-more

-- Two words have one pair just if the same configurations are live after both, in each automaton (PairSets).
pub pairing : (x y : Automaton) (L : ℕ) → length (configurations x L) ≤ L → length (configurations y L) ≤ L → (w v : List ℕ)
    → (pair_of x y L w ≡ pair_of x y L v) ↔ (SameEnds x w v × SameEnds y w v)
pairing = same-pair

-- ---- document 01's table (ExampleLaws)
pub table : (r : Row) → Memᴰ r rows → Holds 256 r
table = rows-hold
