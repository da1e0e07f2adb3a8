-- Joining: what joining files answers (document 01, 'Joining books' and the order of refusals; document 02, change 6: two files are joined
-- over the letters of both).
-- The joined automata themselves are automata's specs/Joins.antt, and their bytes format's specs/Encoding.antt.
use Rattle.std.specs.Prelude.{Bool, ◌||◌, List, [], ◌∷◌, ◌++◌, ℕ, None, Ok, Result, Some, ltb, length}
use Rattle.automata.specs.Lists.{any}
use Rattle.automata.specs.Automaton.{Arc, Automaton}
use Rattle.automata.specs.Joins.{closure}
use Rattle.relettering.specs.Relettering.{over_both}
use Rattle.file_fields.specs.declared.Counts.{Counts}
use Rattle.file_fields.specs.declared.Automaton.TheVariants.{First}
use Rattle.file_fields.specs.declared.Reason.TheVariants.{JoinedBeyondALimit, OutputTooShort}
use Rattle.file_fields.specs.declared.Refusal.{Refusal}
use Rattle.format.specs.Refusals.{Refusals, fault_of, reason_of, refused, unless_refused}
use Rattle.format.specs.Decoding.{automaton_of}
use Rattle.format.specs.Encoding.{sizes, bytes_of}
use Rattle.file_pair.specs.Pair.{pair_refusals}

-- ---- the refusals in their order: a test, and where it holds the reason and the automaton at fault
-- of a result of `size` bytes: 11, beyond a limit (`over`); 25, the output shorter than the result
abbrev pub result_refusals : (over : Bool) (size space : ℕ) → Refusals
result_refusals over size space =
    (over, JoinedBeyondALimit, None)
    ∷ (ltb space size, OutputTooShort, None)
    ∷ []

-- counts beyond the limit on states, registers or arcs
abbrev pub many_counts : Counts → Bool
many_counts c = ltb 256 c.states || ltb 8 c.registers || ltb 2048 c.arcs

-- an arc beyond the limit on operations
abbrev pub many_ops : Arc → Bool
many_ops a = ltb 8 (length a.ops)

-- an automaton beyond any of these limits
unfoldable pub beyond : Automaton → Bool
unfolding any
beyond x = many_counts (sizes x) || any many_ops x.arcs

-- of the joined automaton
abbrev pub automaton_refusals : Automaton → (space : ℕ) → Refusals
automaton_refusals x space = result_refusals (beyond x) (length (bytes_of x)) space

-- of a call that joins two files as the automaton x
unfoldable pub join_refusals : (first second : List ℕ) → Automaton → (space : ℕ) → Refusals
unfolding pair_refusals
join_refusals first second x space = pair_refusals first second ++ automaton_refusals x space

-- of the call that closes a file
unfoldable pub close_refusals : (file : List ℕ) (space : ℕ) → Refusals
close_refusals file space = (ltb 0 (fault_of file), reason_of file, Some First) ∷ automaton_refusals (closure (automaton_of file)) space

-- ---- the answers
-- of a result of `size` bytes: its length
unfoldable pub decided : (over : Bool) (size space : ℕ) → Result ℕ Refusal
unfolding unless_refused
decided over size space = unless_refused refused (result_refusals over size space) (Ok size)

-- of the joined automaton x: the length of its file
unfoldable pub written_of : Automaton → ℕ → Result ℕ Refusal
unfolding decided
written_of x space = decided (beyond x) (length (bytes_of x)) space

-- the automata of two files joined by `join`, over the letters of both
abbrev pub join_of : (Automaton → Automaton → Automaton) → (first second : List ℕ) → Automaton
join_of join first second = over_both join (automaton_of first) (automaton_of second)

-- of a call that joins two files so
unfoldable pub joined_of : (Automaton → Automaton → Automaton) → (first second : List ℕ) (space : ℕ) → Result ℕ Refusal
unfolding join_refusals unless_refused
joined_of join first second space = unless_refused refused (join_refusals first second (join_of join first second) space) (Ok (length (bytes_of (join_of join first second))))

-- of the call that closes a file
unfoldable pub closed_of : List ℕ → ℕ → Result ℕ Refusal
unfolding close_refusals unless_refused
closed_of file space = unless_refused refused (close_refusals file space) (Ok (length (bytes_of (closure (automaton_of file)))))
