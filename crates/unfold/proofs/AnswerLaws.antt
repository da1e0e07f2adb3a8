-- AnswerLaws: what unfolding answers in each case.
use mathlib.Core.Path.{◌≡◌, sym}
use mathlib.Core.List.{List}
use Prim.Native.Nat.{◌<◌, ◌≤◌, ℕ}
use borrow.Author.Tests.{le-ltb, lt-ltb}
use lib.ListN.{length}
use Rattle.automata.specs.Automaton.{Automaton}
use Rattle.automata.specs.Unfolding.{plain_arcs, unfolded}
use Rattle.std.specs.Prelude.{Err, None, Ok, Some}
use Rattle.file_fields.specs.declared.Automaton.TheVariants.{First}
use Rattle.file_fields.specs.declared.Reason.TheVariants.{OutputTooShort, TooManyPlainArcs}
use Rattle.file_fields.specs.declared.Refusal.{Refusal}
use Rattle.format.specs.Decoding.{automaton_of}
use Rattle.format.specs.Encoding.{bytes_of}
use Rattle.format.specs.Refusals.{refused}
use Rattle.table.specs.Opening.{opened_of}
use Rattle.table.specs.declared.Opened.{Opened}
use Rattle.table.proofs.Laws.{opened-passed, opened-refused}
use Rattle.unfold.specs.Unfolding.{result_of, result_refusals, unfolding_of}

-- ---- once the configurations are known to be few enough
module _ (L P : ℕ) (x : Automaton) (space : ℕ) where
  pub result-many : P < length (plain_arcs x L) → refused TooManyPlainArcs (Some First) ≡ result_of L P x space
  unfolding result_of
  result-many h = rw (lt-ltb P (length (plain_arcs x L)) h)

  pub result-short : length (plain_arcs x L) ≤ P → space < length (bytes_of (unfolded x L)) → refused OutputTooShort None ≡ result_of L P x space
  unfolding result_of
  result-short h k = rw (le-ltb P (length (plain_arcs x L)) h, lt-ltb space (length (bytes_of (unfolded x L))) k)

  pub result-bytes : length (plain_arcs x L) ≤ P → length (bytes_of (unfolded x L)) ≤ space → Ok (length (bytes_of (unfolded x L))) ≡ result_of L P x space
  unfolding result_of
  result-bytes h k = rw (le-ltb P (length (plain_arcs x L)) h, le-ltb space (length (bytes_of (unfolded x L))) k)

-- ---- the whole answer, by what opening the file answers
module _ (file : List ℕ) (words space : ℕ) where
  pub answer-refused : {r : Refusal} → opened_of file words ≡ Err r → Err r ≡ unfolding_of file words space
  unfolding unfolding_of
  answer-refused e = sym (opened-refused file words refused (result_refusals 256 2048 (automaton_of file) space) (Ok (length (bytes_of (unfolded (automaton_of file) 256)))) e)

  pub answer-open : {o : Opened} → opened_of file words ≡ Ok o → result_of 256 2048 (automaton_of file) space ≡ unfolding_of file words space
  unfolding unfolding_of result_of
  answer-open e = sym (opened-passed file words refused (result_refusals 256 2048 (automaton_of file) space) (Ok (length (bytes_of (unfolded (automaton_of file) 256)))) e)
