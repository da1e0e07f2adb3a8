-- The front of a file: a header that is refused is the answer, then letters that are, else what is said of the flags is.
use mathlib.Core.Path.{◌≡◌, sym, ◌∙◌}
use mathlib.Core.List.{◌++◌}
use Rattle.file_fields.specs.declared.Counts.{Counts}
use Rattle.file_fields.specs.Parts.{counts_of, header_tests, letter_tests, flag_tests, first_fault}
use Rattle.file_fields.proofs.Laws.{goes_on, Goes-on_with, stops}
use Rattle.format.specs.Reading.{front_tests}
use Rattle.std.proofs.lemmas.Result.{err_from_is_err_and}
use Rattle.format.proofs.ValidHeader.{header-ranges}
use Rattle.format.proofs.read_front.Goals as goal
use Rattle.format.proofs.read_front.Goals.{After-read_letters}

pub returns-in_err-c : goal.returns-in_err-c
returns-in_err-c c = let p = err_from_is_err_and c.from_residual.result c.from_residual.ensures.1 in
    rw (p.1, p.2) (sym (stops (header_tests c.args.file.now) (counts_of c.args.file.now) (sym c.read_header.ensures ∙ c.in_err-c.was) (letter_tests (counts_of c.args.file.now) c.args.file.now ++ flag_tests (counts_of c.args.file.now) c.args.file.now)))

pub read_letters-requires : goal.read_letters-requires
read_letters-requires c = (header-ranges c.args.file.now (sym c.read_header.ensures ∙ c.in_ok-c.was)).letters

-- behind the header, the tests of letters and flags are left, of the counts that it has
behind : (r : goal.After-read_letters) → first_fault (front_tests r.args.file.now) (counts_of r.args.file.now) ≡ first_fault (letter_tests r.in_ok-c.c r.args.file.now ++ flag_tests r.in_ok-c.c r.args.file.now) r.in_ok-c.c
behind r = Goes-on_with (header_tests r.args.file.now) (counts_of r.args.file.now) (sym r.read_header.ensures ∙ r.in_ok-c.was) (λ (d : Counts). letter_tests d r.args.file.now ++ flag_tests d r.args.file.now)

pub returns-in_err-read_letters : goal.returns-in_err-read_letters
returns-in_err-read_letters c = let p = err_from_is_err_and c.from_residual-in_err-read_letters.result c.from_residual-in_err-read_letters.ensures.1 in
    rw (p.1, p.2) (sym (behind (goal.at.returns-in_err-read_letters c).After-read_letters ∙ stops (letter_tests c.in_ok-c.c c.args.file.now) c.in_ok-c.c (sym c.read_letters.ensures ∙ c.in_err-read_letters.was) (flag_tests c.in_ok-c.c c.args.file.now)))

pub read_flags-requires : goal.read_flags-requires
read_flags-requires c = let r = header-ranges c.args.file.now (sym c.read_header.ensures ∙ c.in_ok-c.was) in
    (r.letters, r.states)

pub returns : goal.returns
returns c = c.read_flags.ensures ∙ sym (behind (goal.at.returns c).After-read_letters ∙ goes_on (letter_tests c.in_ok-c.c c.args.file.now) c.in_ok-c.c (sym c.read_letters.ensures ∙ c.in_ok-read_letters.was) (flag_tests c.in_ok-c.c c.args.file.now))
