-- Pairs: two automata compared by the pairs of their live sets, and what makes an answer right.
-- Renders document 01, 'Comparing', and demand 3; and change 1 of document 02, by which word is shown. L is the limit on configurations,
-- P the limit on pairs; document 01's are 256 and 512. Words are given by their letters' numbers; the two automata are to have the same
-- letters (SameLetters in Words.antt).
use Rattle.std.specs.Prelude.{◌≡◌, ◌↔◌, ◌⊎◌, ℕ, List, [], Bool, ◌&&◌, not, length}
use Rattle.std.proofs.Math.Option.{Option, none, some}
use Rattle.std.specs.Bool.{beq}
use Rattle.std.proofs.Math.Bool.{cond}
use Rattle.automata.specs.Lists.{same_by}
use Rattle.automata.specs.Automaton.{Automaton, letters, Accepts}
use Rattle.automata.specs.Counting.{Exactly}
use Rattle.automata.specs.Live.{by_letter, meets}
use Rattle.automata.specs.Unfolding.{configurations, plain_arcs, final_set, live_set}
use Rattle.automata.specs.Search.{Over, Entry, met, entries, first_of}
use Rattle.automata.specs.WordOrder.{Before, Earliest}

-- the live set of a word in the first automaton, and in the second
pub record Pair : Type 0 where
  pub left : List Bool
  pub right : List Bool

-- are two pairs the same, set by set?
unfoldable pub same_pair : Pair → Pair → Bool
unfolding same_by
same_pair p q = same_by beq p.left q.left && same_by beq p.right q.right

module _ (x y : Automaton) (L : ℕ) where
  -- the pair of a word
  unfoldable pub pair_of : List ℕ → Pair
  unfolding live_set
  pair_of w = record { left = live_set x L w; right = live_set y L w }

  -- the pair behind one letter more
  unfoldable pub onward : Pair → ℕ → Pair
  unfolding by_letter plain_arcs
  onward p a = record {
    left = by_letter (length (configurations x L)) (plain_arcs x L) p.left a;
    right = by_letter (length (configurations y L)) (plain_arcs y L) p.right a;
  }

  -- does the first, or the second, accept the words of the pair?
  unfoldable pub first_accepts : Pair → Bool
  unfolding final_set meets
  first_accepts p = meets p.left (final_set x (configurations x L))

  -- the same of the second
  unfoldable pub second_accepts : Pair → Bool
  unfolding final_set meets
  second_accepts p = meets p.right (final_set y (configurations y L))

  -- do the answers of the two to the words of the pair pass the test?
  unfoldable pub answers_pass : (test : Bool → Bool → Bool) → Pair → Bool
  unfolding first_accepts second_accepts
  answers_pass test p = test (first_accepts p) (second_accepts p)

  -- the pairs in number order, once n of them have been walked
  unfoldable pub pairs : ℕ → List Pair
  unfolding same_pair onward pair_of met
  pairs n = met same_pair onward (letters x) (pair_of []) n

  -- the same, each with the word by which it was met
  unfoldable pub shown : ℕ → List (Entry Pair)
  unfolding same_pair onward pair_of entries
  shown n = entries same_pair onward (letters x) (pair_of []) n

  -- the first pair whose answers pass the test, with its word
  unfoldable pub first_passing : (test : Bool → Bool → Bool) → ℕ → Option (Entry Pair)
  unfolding first_of answers_pass shown
  first_passing test n = first_of (λ e. answers_pass test e.state) (shown n)

-- ---- the answer
-- exactly one of the two accepts
abbrev pub differ : Bool → Bool → Bool
differ a b = not (beq a b)

-- same, with the number of pairs; or different, with that number, the automaton (1 or 2) that accepts the word, and the word
pub data Verdict : Type 0 where
  same : (count : ℕ) → Verdict
  different : (count taker : ℕ) (word : List ℕ) → Verdict

module _ (x y : Automaton) (L : ℕ) where
  -- the automaton that accepts the words of a pair that differs
  unfoldable pub taker_of : Pair → ℕ
  unfolding first_accepts
  taker_of p = cond (first_accepts x y L p) 1 2

  -- the verdict, by the number of pairs and the first that differs
  unfoldable pub judged : ℕ → Option (Entry Pair) → Verdict
  unfolding taker_of
  judged n none = same n
  judged n (some e) = different n (taker_of e.state) e.word

  -- the verdict, once P pairs have been walked
  unfoldable pub verdict : ℕ → Verdict
  unfolding judged pairs first_passing
  verdict P = judged (length (pairs x y L P)) (first_passing x y L differ P)

-- ---- what makes it right, with no algorithm in sight
-- exactly one of the two accepts the word
abbrev pub OneAccepts : Automaton → Automaton → List ℕ → Type 0
OneAccepts x y w = (Accepts x w × ¬ Accepts y w) ⊎ (¬ Accepts x w × Accepts y w)

module _ (x y : Automaton) (L : ℕ) where
  -- p is the pair of some word over the shared letters
  pub record SomePair (p : Pair) : Type 0 where
    pub word : List ℕ
    pub over : Over (letters x) word
    pub is : pair_of x y L word ≡ p

-- exactly the automaton `taker` accepts the word v, which is the first of the words that exactly one accepts
pub record Shows (x y : Automaton) (taker : ℕ) (v : List ℕ) : Type 0 where
  pub over : Over (letters x) v
  pub by : ((taker ≡ 1) × Accepts x v × ¬ Accepts y v) ⊎ ((taker ≡ 2) × ¬ Accepts x v × Accepts y v)
  pub earliest : Earliest Before (OneAccepts x y) v

-- the number is that of the distinct pairs; told the same, every word of every length is accepted by both or by neither
abbrev pub Right : Automaton → Automaton → ℕ → Verdict → Type 0
Right x y L (same n) = Exactly (SomePair x y L) n × ((w : List ℕ) → Accepts x w ↔ Accepts y w)
Right x y L (different n taker v) = Exactly (SomePair x y L) n × Shows x y taker v
