-- `compare::compare_alike` meets its contract: lists that agree are the letters of both, by no new numbers.
use mathlib.Core.List.{[]}
use Prim.Native.Nat.{◌-◌}
use native.Mathlib.Omega.{arith}
use lib.ListN.{drop, take}
use Rattle.file_laws.proofs.Laws.{valid-letters}
use Rattle.file_pair.specs.Lettered.{OverBoth}
use Rattle.file_pair.proofs.Laws.{agree_joinable, files-valid, header-lettered, lent_over}
use Rattle.compare_promise.specs.Comparing.{table_refusals}
use Rattle.compare.proofs.OverLaws.{answers-over}
use Rattle.compare.proofs.Refusals.{files-both}
use Rattle.compare.proofs.compare_alike.Goals as goal
use Rattle.compare.proofs.compare_alike.Goals.{After-flags_at-end}

over : (f : goal.After-flags_at-end) → OverBoth f.args.a f.args.b f.args.first.now f.args.second.now [] [] (take (f.flags_at-end.result - 12) (drop 12 f.args.first.now))
over f = lent_over f.args.first.now f.args.second.now f.flags_at-end.result f.requires.0 f.flags_at-end.ensures

pub flags_at-end-requires : goal.flags_at-end-requires
flags_at-end-requires c = (valid-letters c.args.first.now c.args.a (files-valid c.args.first.now c.args.second.now c.requires.0).0).0

pub slice_bounds-compare_files-end-3 : goal.slice_bounds-compare_files-end-3
slice_bounds-compare_files-end-3 c = omega (arith, c.flags_at-end.ensures, (valid-letters c.args.first.now c.args.a (files-valid c.args.first.now c.args.second.now c.requires.0).0).1)

pub compare_files-requires : goal.compare_files-requires
compare_files-requires c = (header-lettered (over (goal.at.compare_files-requires c).After-flags_at-end).lettered, (c.requires.1, c.requires.2))

pub returns : goal.returns
returns c = record { same = c.compare_files.ensures.same; answers = files-both c.args.first.now c.args.second.now c.requires.0 (agree_joinable c.args.first.now c.args.second.now c.requires.0).few (answers-over (table_refusals 256 2048 512) (over (goal.at.returns c).After-flags_at-end) c.compare_files.ensures.answers) }
