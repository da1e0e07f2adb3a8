-- FlagBytes: the flags of a set of states, from a number on, as the writer's loop meets them.
use mathlib.Core.Path.{◌∙◌, ◌≡◌, ap}
use mathlib.Core.List.{List, map}
use Prim.Native.Nat.{◌-◌, ℕ}
use native.Mathlib.Omega.{arith}
use lib.ListN.{length, length-map}
use Rattle.automata.specs.Lists.{count_from}
use Rattle.automata.proofs.Laws.{map-map}
use Rattle.format.specs.Encoding.{flag_byte}
use Rattle.word_sets.specs.Sets.{in_set, view}
use Rattle.file_arc_writing.proofs.Laws.{count-length}
use Rattle.unfold.proofs.CountedLists.{table_counted}

abbrev pub flag_in : List ℕ → ℕ → ℕ
flag_in s j = flag_byte (in_set s j)

-- those of the states from i to before n
abbrev pub flags_from : List ℕ → ℕ → ℕ → List ℕ
flags_from s i n = map (flag_in s) (count_from i (n - i))

pub flags-length : (s : List ℕ) (n : ℕ) → length (flags_from s 0 n) ≡ n
flags-length s n = length-map (count_from 0 (n - 0)) (flag_in s) ∙ count-length 0 (n - 0) ∙ omega arith

pub flags-all : (s : List ℕ) (n : ℕ) → map flag_byte (view n s) ≡ flags_from s 0 n
unfolding view
flags-all s n = let e : n - 0 ≡ n = omega arith in ap (map flag_byte) (table_counted n (in_set s)) ∙ map-map flag_byte (in_set s) (count_from 0 n) ∙ rw e
