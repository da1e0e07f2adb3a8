-- All arcs: where all tests hold the counts are the answer, else the fault that is looked for.
use mathlib.Core.Path.{sym}
use mathlib.Core.Bool.{true}
use lib.ListN.{drop}
use Rattle.file_fields.specs.Parts.{arcs_tests}
use Rattle.file_fields.proofs.Laws.{each_holds, Hold-valid, passed}
use Rattle.file_arcs.proofs.read_arcs.Goals as goal

pub returns-then-not-are_arcs : goal.returns-then-not-are_arcs
returns-then-not-are_arcs c = c.arcs_fault.ensures

pub returns : goal.returns
returns c = let tests = arcs_tests c.args.c.arcs c.args.c c.args.from (drop c.args.from c.args.file.now) in
    sym (Hold-valid tests c.args.c (each_holds true tests (passed c.are_arcs.ensures c.if-not-are_arcs.false-raw)).1)
