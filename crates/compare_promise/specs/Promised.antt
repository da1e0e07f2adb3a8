-- Promised: what is promised of comparing (demand 3 and the exact condition of each refusal; which word is shown, changes 1, 4 and 6 of
-- document 02). Words, languages and configurations are those of runs, of each file's automaton by its own letters; plain arcs (22) and pairs
-- of live sets (23 and the count) are document 01's, over numbered configurations, pairs by words over the letters of both; and `paired`
-- says by runs what one pair is. Nothing here is the contract's but `Told`: a contract that
-- says less does not give this promise. And a promise that says less leaves something open, which proofs/Settled.antt rules out.
use Rattle.std.specs.Prelude.{◌≡◌, ◌↔◌, ◌⊎◌, List, [], ◌∷◌, ℕ, ◌≤◌, ◌<◌, T, drop, length, take}
use Rattle.automata.specs.Automaton.{Automaton, Configuration, Reachable}
use Rattle.automata.specs.Counting.{Exactly, MoreThan}
use Rattle.automata.specs.Pairs.{Pair, SomePair, pair_of}
use Rattle.automata.specs.Unfolding.{plain_arcs}
use Rattle.automata.specs.WordOrder.{BeforeIn, Earliest}
use Rattle.automata.specs.Words.{Language, Listed, LiveAfter, places}
use Rattle.relettering.specs.Relettering.{letters_of_both, relettered}
use Rattle.format.specs.Decoding.{automaton_of}
use Rattle.format.specs.Refusals.{FirstHolds, fault_of}
use Rattle.compare_promise.specs.Comparing.{Told}

-- ---- the letters of both files, ascending: the first file's bytes and those of the second that match none of them
abbrev pub letters_in : (first second : List ℕ) → List ℕ
letters_in first second = letters_of_both (automaton_of first) (automaton_of second)

-- the automaton of a file over them
abbrev pub over_all : (first second file : List ℕ) → Automaton
over_all first second file = relettered (letters_in first second) (automaton_of file)

-- p is the pair of live sets of some word over them
abbrev pub PairIn : (first second : List ℕ) → Pair → Type 0
PairIn first second p = SomePair (over_all first second first) (over_all first second second) 256 p

-- the pair of a word, which is given by its bytes
abbrev pub pair_in : (first second word : List ℕ) → Pair
pair_in first second word = pair_of (over_all first second first) (over_all first second second) 256 (places (letters_in first second) word)

-- runs that spell v and runs that spell w, each by the automaton's own letters, end in the same configurations; where it lacks a letter of
-- a word, no run spells it
abbrev pub SameLive : Automaton → (v w : List ℕ) → Type 0
SameLive x v w = (c : Configuration) → LiveAfter x v c ↔ LiveAfter x w c

-- ---- document 01's refusals in their order: a condition, the number, and the automaton at fault
-- those because of what the tables hold
abbrev pub table_conditions : (first second : List ℕ) → List (Type 0 × ℕ × ℕ)
table_conditions first second =
    (MoreThan (Reachable (automaton_of first)) 256, 21, 1)
    ∷ (2048 < length (plain_arcs (automaton_of first) 256), 22, 1)
    ∷ (MoreThan (Reachable (automaton_of second)) 256, 21, 2)
    ∷ (2048 < length (plain_arcs (automaton_of second) 256), 22, 2)
    ∷ (MoreThan (PairIn first second) 512, 23, 0)
    ∷ []

-- all of the call
abbrev pub conditions : (first second : List ℕ) (words buffer : ℕ) → List (Type 0 × ℕ × ℕ)
conditions first second words buffer =
    ((words < 8192) ⊎ (buffer < 512), 24, 0)
    ∷ (0 < fault_of first, fault_of first, 1)
    ∷ (0 < fault_of second, fault_of second, 2)
    ∷ (64 < length (letters_in first second), 11, 0)
    ∷ table_conditions first second

-- ---- demand 3
-- its premises: both files are valid and have at most 64 letters together; each unfolds within 256 configurations and 2,048 plain arcs;
-- words of those letters reach at most 512 different pairs of live sets; the lent memory has its stated size
pub record Premises (first second : List ℕ) (words buffer : ℕ) : Type 0 where
  pub enough_words : 8192 ≤ words
  pub enough_bytes : 512 ≤ buffer
  pub valid₁ : fault_of first ≡ 0
  pub valid₂ : fault_of second ≡ 0
  pub few_letters : length (letters_in first second) ≤ 64
  pub configurations₁ : ¬ MoreThan (Reachable (automaton_of first)) 256
  pub arcs₁ : length (plain_arcs (automaton_of first) 256) ≤ 2048
  pub configurations₂ : ¬ MoreThan (Reachable (automaton_of second)) 256
  pub arcs₂ : length (plain_arcs (automaton_of second) 256) ≤ 2048
  pub few_pairs : ¬ MoreThan (PairIn first second) 512

-- every word of bytes, of every length, is accepted by both or by neither; an automaton accepts no word with a byte that is none of its
-- letters
abbrev pub Equivalent : Automaton → Automaton → Type 0
Equivalent x y = (word : List ℕ) → Language x word ↔ Language y word

-- one of two holds, and the other does not
abbrev pub Either : Type 0 → Type 0 → Type 0
Either A B = (A × ¬ B) ⊎ (B × ¬ A)

-- what is promised of two files, a number of working words, the buffer lent, the buffer afterwards, and the answer as it is told
pub record Promised (first second : List ℕ) (words : ℕ) (old new : List ℕ) (t : Told) : Type 0 where
  -- nothing is refused just under the premises
  pub answers : (t.number ≡ 0) ↔ Premises first second words (length old)
  -- told the same just if the two are equivalent, else told different
  pub same : T t.same ↔ (Premises first second words (length old) × Equivalent (automaton_of first) (automaton_of second))
  pub different : T t.different ↔ (Premises first second words (length old) × ¬ Equivalent (automaton_of first) (automaton_of second))
  -- told different, exactly the named automaton accepts the word at the buffer's front
  pub shows : T t.different → let word = take t.size new in
      ((t.taker ≡ 1) × Language (automaton_of first) word × ¬ Language (automaton_of second) word)
      ⊎ ((t.taker ≡ 2) × Language (automaton_of second) word × ¬ Language (automaton_of first) word)
  -- every word that exactly one accepts is at least as long
  pub shortest : T t.different → (other : List ℕ) → Either (Language (automaton_of first) other) (Language (automaton_of second) other) → t.size ≤ length other
  -- and it is the first of them: none that is as long has the lower letter where the two first differ, by the letters' places in the joined
  -- list
  pub earliest : T t.different → Earliest (BeforeIn (letters_in first second)) (λ other. Either (Language (automaton_of first) other) (Language (automaton_of second) other)) (take t.size new)
  -- and it is written in the bytes of the joined list: other bytes may stand for the same letters
  pub written : T t.different → Listed (letters_in first second) (take t.size new)
  -- told either, the number is that of the distinct pairs of live sets over all words of the letters of both
  pub counts : Premises first second words (length old) → Exactly (PairIn first second) t.pairs
  -- two words of these letters have one pair just if runs that spell them end in the same configurations, in each of the two automata
  pub paired : Premises first second words (length old) → (v w : List ℕ) → Listed (letters_in first second) v → Listed (letters_in first second) w
      → (pair_in first second v ≡ pair_in first second w) ↔ (SameLive (automaton_of first) v w × SameLive (automaton_of second) v w)
  -- each refusal has its number and its automaton at fault just where its condition is the first that holds; where none holds, both are 0
  pub refuses : (n b : ℕ) → ((t.number ≡ n) × (t.at_fault ≡ b)) ↔ FirstHolds (conditions first second words (length old)) n b
  -- the bytes behind the shown word are as they were lent; where none is shown, all are, its size being 0
  pub behind : drop t.size new ≡ drop t.size old
  pub none_shown : ¬ T t.different → t.size ≡ 0
  pub whole : t.size ≤ length new
