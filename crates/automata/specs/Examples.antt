-- Examples: document 01's automata T, V, K and S, and its table of checked words and automata ('Checked slips and books'); document 02's
-- examples of the word that is shown (change 1) and of the words of one length (change 2); and words in capitals (change 4).
-- proofs/ExampleLaws.antt has the one theorem over the rows.
use Rattle.std.specs.Prelude.{ℕ, ◌≡◌, List, [], ◌∷◌, true, false, length}
use Rattle.std.proofs.Math.Option.{some}
use Rattle.automata.specs.Counting.{Exactly}
use Rattle.automata.specs.Automaton.{Op, reads, writes, Arc, Automaton, Reachable}
use Rattle.automata.specs.Words.{Language}
use Rattle.automata.specs.Lengths.{AcceptedOf, RejectedOf}
use Rattle.automata.specs.Pairs.{Right, Verdict, different, same}
use Rattle.automata.specs.Unfolding.{plain_arcs, read_zero, unfolded}
use Rattle.automata.specs.Joins.{arc_from, concatenation, intersection, closure}

-- the letters' bytes
abbrev pub a : ℕ
a = 97

-- the second letter of S
abbrev pub b : ℕ
b = 98

-- the first letter of T, and the only one of K
abbrev pub c : ℕ
c = 99

-- the second letter of T
abbrev pub e : ℕ
e = 101

-- the third letter of T
abbrev pub m : ℕ
m = 109

abbrev arc : ℕ → ℕ → ℕ → List Op → Arc
arc s l t ops = arc_from s (some l) t ops

-- any number of m after the first letter, which register 1 keeps; and then the arcs that close the word
abbrev closed_by : List Arc → Automaton
closed_by arcs = record {
  alphabet = c ∷ e ∷ m ∷ [];
  registers = 2;
  symbols = 3;
  finals = false ∷ false ∷ true ∷ [];
  arcs = arc 0 0 1 (writes 1 1 ∷ []) ∷ arc 0 1 1 (writes 1 2 ∷ []) ∷ arc 1 2 1 read_zero ∷ arcs;
}

-- T: a word that ends as it began, with any number of m between
unfoldable pub automaton_t : Automaton
automaton_t = closed_by (arc 1 0 2 (reads 1 1 ∷ []) ∷ arc 1 1 2 (reads 1 2 ∷ []) ∷ [])

-- V: T without its last arc
unfoldable pub automaton_v : Automaton
automaton_v = closed_by (arc 1 0 2 (reads 1 1 ∷ []) ∷ [])

-- U: T without agreement at the end: its closing arcs read register 0 for 0
unfoldable pub automaton_u : Automaton
automaton_u = closed_by (arc 1 0 2 read_zero ∷ arc 1 1 2 read_zero ∷ [])

-- K: one letter, which a register lets through once
unfoldable pub automaton_k : Automaton
automaton_k = record { alphabet = c ∷ []; registers = 2; symbols = 2; finals = false ∷ true ∷ []; arcs = arc 0 0 1 (reads 1 0 ∷ writes 1 1 ∷ []) ∷ [] }

-- S: any number of a, and then b
unfoldable pub automaton_s : Automaton
automaton_s = record { alphabet = a ∷ b ∷ []; registers = 1; symbols = 1; finals = false ∷ true ∷ []; arcs = arc 0 0 0 read_zero ∷ arc 0 1 1 read_zero ∷ [] }

-- one letter, with this byte, which is the one word
abbrev one_letter : ℕ → Automaton
one_letter byte = record { alphabet = byte ∷ []; registers = 1; symbols = 1; finals = false ∷ true ∷ []; arcs = arc 0 0 1 read_zero ∷ [] }

-- no letters, one state, which is final
unfoldable pub wordless : Automaton
wordless = record { alphabet = []; registers = 1; symbols = 1; finals = true ∷ []; arcs = [] }

-- ---- the table
-- a row: an automaton and a word that it accepts or rejects, or the number of its configurations or of its plain arcs; two automata and
-- their verdict; an automaton, a length, and how many words of that length it accepts and rejects
pub data Row : Type 0 where
  accepts rejects : (x : Automaton) (word : List ℕ) → Row
  reaches unfolds_to : (x : Automaton) (many : ℕ) → Row
  compare_to : (x y : Automaton) (v : Verdict) → Row
  counts_to : (x : Automaton) (size accepted rejected : ℕ) → Row

-- what a row says; L is the limit on configurations. A verdict has its word by the numbers of the letters
abbrev pub Holds : ℕ → Row → Type 0
Holds L (accepts x w) = Language x w
Holds L (rejects x w) = ¬ Language x w
Holds L (reaches x n) = Exactly (Reachable x) n
Holds L (unfolds_to x n) = length (plain_arcs x L) ≡ n
Holds L (compare_to x y v) = Right x y L v
Holds L (counts_to x n k m) = Exactly (AcceptedOf x n) k × Exactly (RejectedOf x n) m

-- document 01's checked words and automata; then document 02's examples: the first difference of U and T is ce, and never ec; of the
-- words of 3 letters T accepts 2 and rejects 25; with no letters there is one word of length 0, and none of any other; last, for change 4, CMmc is cmmc,
-- and CE is ce; 41 and 61, 5A and 7A are one letter, but not 40 and 60, 5B and 7B, C1 and E1
unfoldable pub rows : List Row
unfolding automaton_t automaton_v automaton_u automaton_k automaton_s wordless concatenation intersection closure unfolded
rows = accepts automaton_t (c ∷ c ∷ [])
    ∷ accepts automaton_t (c ∷ m ∷ m ∷ c ∷ [])
    ∷ accepts automaton_t (e ∷ m ∷ e ∷ [])
    ∷ rejects automaton_t (c ∷ e ∷ [])
    ∷ rejects automaton_t (c ∷ [])
    ∷ rejects automaton_t []
    ∷ reaches automaton_t 5
    ∷ unfolds_to automaton_t 6
    ∷ accepts (concatenation automaton_k automaton_k) (c ∷ c ∷ [])
    ∷ accepts (closure automaton_k) (c ∷ c ∷ c ∷ [])
    ∷ accepts (closure automaton_s) []
    ∷ rejects (closure automaton_s) (a ∷ [])
    ∷ accepts (intersection automaton_t automaton_v) (c ∷ c ∷ [])
    ∷ rejects (intersection automaton_t automaton_v) (e ∷ e ∷ [])
    ∷ compare_to automaton_t (unfolded automaton_t 256) (same 6)
    ∷ compare_to automaton_t automaton_v (different 6 1 (1 ∷ 1 ∷ []))
    ∷ compare_to automaton_u automaton_t (different 8 1 (0 ∷ 1 ∷ []))
    ∷ counts_to automaton_t 3 2 25
    ∷ counts_to wordless 0 1 0
    ∷ counts_to wordless 1 0 0
    ∷ accepts automaton_t (0x43 ∷ 0x4D ∷ m ∷ c ∷ [])
    ∷ rejects automaton_t (0x43 ∷ 0x45 ∷ [])
    ∷ accepts (one_letter 0x41) (0x61 ∷ [])
    ∷ accepts (one_letter 0x7A) (0x5A ∷ [])
    ∷ rejects (one_letter 0x40) (0x60 ∷ [])
    ∷ rejects (one_letter 0x7B) (0x5B ∷ [])
    ∷ rejects (one_letter 0xC1) (0xE1 ∷ [])
    ∷ []
