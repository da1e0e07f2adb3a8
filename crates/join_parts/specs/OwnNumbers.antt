-- OwnNumbers: two files joined by the numbers that letters have in their own lists, with room for the letters of both; where the lists
-- differ, these letters and the new numbers of the arcs' letters are put in afterwards (document 02, change 6).
use Rattle.std.specs.Prelude.{◌≡◌, ◌⊎◌, Bool, cond, List, [], ◌++◌, map, ℕ, zero, suc, ◌-◌, ◌≤◌, drop, get_or, length, replicate, set, take}
use Rattle.automata.specs.Automaton.{Automaton}
use Rattle.automata.specs.Words.{SameLetters, places}
use Rattle.relettering.specs.Relettering.{letter_by, relettered_arc}
use Rattle.file_fields.specs.Parts.{arc_size}
use Rattle.format.specs.Decoding.{automaton_of}
use Rattle.format.specs.Encoding.{bytes_of, sizes}
use Rattle.format.specs.Limits.{Ranges}
use Rattle.file_pair.specs.Lettered.{automaton_over}
use Rattle.file_pair.specs.Pair.{letters_of}

-- ---- by their own numbers
-- the automaton with room for n letters: 00 stands behind its own
unfoldable pub roomy : ℕ → Automaton → Automaton
roomy n x = record { alphabet = x.alphabet ++ replicate (n - length x.alphabet) 0; registers = x.registers; symbols = x.symbols; finals = x.finals; arcs = x.arcs }

-- the letters that the second file's arcs are matched by: none, where the lists agree and numbers tell; or its own
abbrev pub Others : (first second others : List ℕ) → Type 0
Others first second others = (SameLetters (automaton_of first) (automaton_of second) × (others ≡ [])) ⊎ (others ≡ (automaton_of second).alphabet)

-- the second file's automaton by the numbers of the first file's letters
abbrev pub by_first : (first others second : List ℕ) → Automaton
by_first first others second = automaton_over (places (automaton_of first).alphabet others) [] second

-- ---- the letters of both
-- how many arcs at the end of a joined automaton are the second file's: all of its own, or none
abbrev pub last_arcs : (of_second : Bool) (second : List ℕ) → ℕ
last_arcs of_second second = cond of_second (length (automaton_of second).arcs) 0

-- the automaton with these letters, the last k arcs by the numbers `two` and those before them by `one`
unfoldable pub letters_put : (k : ℕ) (one two all : List ℕ) → Automaton → Automaton
letters_put k one two all x =
    let before = length x.arcs - k in
    record {
      alphabet = all;
      registers = x.registers;
      symbols = x.symbols;
      finals = x.finals;
      arcs = map (relettered_arc one) (take before x.arcs) ++ map (relettered_arc two) (drop before x.arcs);
    }

-- the bytes of m arcs, with the new numbers of their letters, and what is behind them
unfoldable pub relettered_bytes : (m : ℕ) (new bytes : List ℕ) → List ℕ
relettered_bytes zero new l = l
relettered_bytes (suc m) new l = take (arc_size l) (set l 1 (letter_by new (get_or l 1 0))) ++ relettered_bytes m new (drop (arc_size l) l)

-- at the front of the output stands the file of a joined automaton by the files' own numbers, with room for the letters of both
pub record Standing (s t : List ℕ) (of_second : Bool) (out : List ℕ) : Type 0 where
  pub joined : Automaton
  pub behind : List ℕ
  pub bytes : out ≡ bytes_of (roomy (length (letters_of s t)) joined) ++ behind
  pub letters : length joined.alphabet ≤ length (letters_of s t)
  pub arcs : last_arcs of_second t ≤ length joined.arcs
  pub ranges : Ranges (sizes (roomy (length (letters_of s t)) joined))
