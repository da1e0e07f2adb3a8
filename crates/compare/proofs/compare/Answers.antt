-- `compare::compare` meets its contract: each way out is a case of the definition, test after test (Refusals).
use mathlib.Core.Path.{◌≡◌, ◌∙◌, refl, sym}
use native.Mathlib.Omega.{arith}
use lib.ListN.{length}
use Rattle.file_pair.specs.Pair.{files_of}
use Rattle.std.specs.Prelude.{Ok}
use Rattle.compare.proofs.Refusals.{buffer-short, files-fault, memory_passed, words-short}
use Rattle.compare.proofs.compare.Goals as goal
use Rattle.compare.proofs.compare.Goals.{In-Ok}

-- the working words are too few
pub returns-then-work-lt8192 : goal.returns-then-work-lt8192
returns-then-work-lt8192 c = let told = words-short c.args.first.now c.args.second.now (length c.args.work.now) c.args.word.now (omega (arith, c.if-work-lt8192.true)) in record { same = refl; answer = rw c.of_call.ensures told.0; shown = told.1 }

-- the buffer is too short
pub returns-then-word-lt512 : goal.returns-then-word-lt512
returns-then-word-lt512 c = let told = buffer-short c.args.first.now c.args.second.now (length c.args.work.now) c.args.word.now (omega (arith, c.if-work-lt8192.false)) (omega (arith, c.if-word-lt512.true)) in record { same = refl; answer = rw c.of_call-then-word-lt512.ensures told.0; shown = told.1 }

-- two valid files, and whether their letter lists agree
valid : (k : goal.In-Ok) → files_of k.args.first.now k.args.second.now ≡ Ok k.in-Ok.pair
valid k = sym k.read_files.ensures ∙ k.in-Ok.is

pub compare_alike-requires : goal.compare_alike-requires
compare_alike-requires c = (rw c.if-pair.true at (valid (goal.at.compare_alike-requires c).In-Ok), omega (arith, c.if-work-lt8192.false), omega (arith, c.if-word-lt512.false))

pub compare_apart-requires : goal.compare_apart-requires
compare_apart-requires c = (rw c.if-pair.false at (valid (goal.at.compare_apart-requires c).In-Ok), omega (arith, c.if-work-lt8192.false), omega (arith, c.if-word-lt512.false))

-- a file has a fault
pub returns-in-Err : goal.returns-in-Err
returns-in-Err c = let told = memory_passed c.args.first.now c.args.second.now (length c.args.work.now) c.args.word.now (omega (arith, c.if-work-lt8192.false)) (omega (arith, c.if-word-lt512.false)) (files-fault c.args.first.now c.args.second.now c.args.word.now (sym c.read_files.ensures ∙ c.in-Err.is)) in record { same = refl; answer = told.0; shown = told.1 }

pub returns-then-pair : goal.returns-then-pair
returns-then-pair c = let told = memory_passed c.args.first.now c.args.second.now (length c.args.work.now) c.args.word.now (omega (arith, c.if-work-lt8192.false)) (omega (arith, c.if-word-lt512.false)) c.compare_alike.ensures.answers in record { same = c.compare_alike.ensures.same; answer = told.0; shown = told.1 }

pub returns-else-pair : goal.returns-else-pair
returns-else-pair c = let told = memory_passed c.args.first.now c.args.second.now (length c.args.work.now) c.args.word.now (omega (arith, c.if-work-lt8192.false)) (omega (arith, c.if-word-lt512.false)) c.compare_apart.ensures.answers in record { same = c.compare_apart.ensures.same; answer = told.0; shown = told.1 }
