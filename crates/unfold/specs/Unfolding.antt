-- Unfolding: what unfolding answers of a file and of the numbers of working words and of output bytes lent (document 01, 'Unfolding',
-- and the order of refusals). The unfolded automaton itself is automata's specs/Unfolding.antt, and its bytes format's
-- specs/Encoding.antt.
use Rattle.std.specs.Prelude.{List, [], ◌++◌, ◌∷◌, ℕ, ltb, length, None, Ok, Result, Some}
use Rattle.automata.specs.Automaton.{Automaton}
use Rattle.automata.specs.Unfolding.{plain_arcs, unfolded}
use Rattle.format.specs.Decoding.{automaton_of}
use Rattle.format.specs.Encoding.{bytes_of}
use Rattle.file_fields.specs.declared.Automaton.TheVariants.{First}
use Rattle.file_fields.specs.declared.Reason.TheVariants.{OutputTooShort, TooManyPlainArcs}
use Rattle.file_fields.specs.declared.Refusal.{Refusal}
use Rattle.format.specs.Refusals.{Refusals, refused, unless_refused}
use Rattle.table.specs.Opening.{open_refusals}

-- ---- the refusals in their order: a test, and where it holds the reason and the automaton at fault
-- of an automaton with at most L configurations: 22, more than P plain arcs; 25, an output shorter than the result
unfoldable pub result_refusals : (L P : ℕ) → Automaton → (space : ℕ) → Refusals
result_refusals L P x space =
    (ltb P (length (plain_arcs x L)), TooManyPlainArcs, Some First)
    ∷ (ltb space (length (bytes_of (unfolded x L))), OutputTooShort, None)
    ∷ []

-- of the call: those of opening the file (24; the file's fault; 21, more than L configurations), and those above
unfoldable pub refusals : (L P : ℕ) (file : List ℕ) (words space : ℕ) → Refusals
unfolding open_refusals result_refusals
refusals L P file words space = open_refusals L file words ++ result_refusals L P (automaton_of file) space

-- ---- the answer: the length of the result
-- once the configurations are known to be few enough
unfoldable pub result_of : (L P : ℕ) → Automaton → (space : ℕ) → Result ℕ Refusal
unfolding result_refusals unless_refused
result_of L P x space = unless_refused refused (result_refusals L P x space) (Ok (length (bytes_of (unfolded x L))))

-- the whole answer, at document 01's limits
unfoldable pub unfolding_of : (file : List ℕ) (words space : ℕ) → Result ℕ Refusal
unfolding refusals unless_refused
unfolding_of file words space = unless_refused refused (refusals 256 2048 file words space) (Ok (length (bytes_of (unfolded (automaton_of file) 256))))
