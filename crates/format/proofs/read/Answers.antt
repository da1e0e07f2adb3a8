-- The file: a front that is refused is the answer, else what is said of the arcs is.
use mathlib.Core.Path.{◌≡◌, sym, ◌∙◌}
use native.Mathlib.Omega.{arith}
use lib.ListN.{drop}
use Rattle.file_fields.specs.declared.Counts.{Counts}
use Rattle.file_fields.specs.Parts.{arcs_tests, counts_of, first_arc, first_fault}
use Rattle.file_fields.proofs.Laws.{Goes-on_with, stops}
use Rattle.std.proofs.lemmas.Result.{err_from_is_err_and}
use Rattle.format.specs.Reading.{front_tests, reading_of}
use Rattle.format.proofs.ValidHeader.{front-there}
use Rattle.format.proofs.read.Goals as goal
use Rattle.format.proofs.read.Goals.{After-read_front}

-- the front's answer, of the file
front : (c : goal.After-read_front) → c.read_front.result ≡ first_fault (front_tests c.args.file.now) (counts_of c.args.file.now)
front c = c.read_front.ensures

pub returns-in_err-c : goal.returns-in_err-c
unfolding reading_of
returns-in_err-c c = let d = counts_of c.args.file.now in
    let p = err_from_is_err_and c.from_residual.result c.from_residual.ensures.1 in
    rw (p.1, p.2) (sym (stops (front_tests c.args.file.now) d (sym c.read_front.ensures ∙ c.in_err-c.was) (arcs_tests d.arcs d (first_arc d) (drop (first_arc d) c.args.file.now))))

pub first_arc-requires : goal.first_arc-requires
first_arc-requires c = let r = (front-there c.args.file.now (sym (front (goal.at.first_arc-requires c).After-read_front) ∙ c.in_ok-c.was)).0 in
    (r.letters, r.states)

pub read_arcs-requires : goal.read_arcs-requires
read_arcs-requires c = let h = (front-there c.args.file.now (sym (front (goal.at.read_arcs-requires c).After-read_front) ∙ c.in_ok-c.was)).1 in
    omega (arith, c.first_arc.ensures)

pub returns : goal.returns
unfolding reading_of
returns c = let on = Goes-on_with (front_tests c.args.file.now) (counts_of c.args.file.now) (sym (front (goal.at.returns c).After-read_front) ∙ c.in_ok-c.was) (λ (d : Counts). arcs_tests d.arcs d (first_arc d) (drop (first_arc d) c.args.file.now)) in
    (rw c.first_arc.ensures at c.read_arcs.ensures) ∙ sym on
