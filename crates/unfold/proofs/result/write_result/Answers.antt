-- `unfold::result::write_result` meets its contract: 22 and 25 are decided by the counts, and then the file is written.
use mathlib.Core.Path.{◌∙◌, ap, refl, sym}
use native.Mathlib.Omega.{arith}
use lib.ListN.{length}
use Rattle.format.specs.Decoding.{automaton_of}
use Rattle.file_laws.proofs.Laws.{valid-ranges}
use Rattle.std.specs.Prelude.{Err, Ok}
use Rattle.file_writing.proofs.Laws.{file-written}
use Rattle.unfold.proofs.AnswerLaws.{result-bytes, result-many, result-short}
use Rattle.table.proofs.Laws.{holds_plain, holds-valid}
use Rattle.unfold.proofs.ResultBytes.{count-few, result-length}
use Rattle.unfold.proofs.result.write_result.Goals as goal

pub returns-then-block-gt2048 : goal.returns-then-block-gt2048
returns-then-block-gt2048 c = record { answer = ap Err c.of.ensures ∙ result-many 256 2048 (automaton_of c.args.file.now) (length c.args.out.now) (omega (arith, c.if-block-gt2048.true, holds_plain c.requires)); output = refl }

pub overflow_add-size : goal.overflow_add-size
overflow_add-size c = omega (arith, (valid-ranges _ _ (holds-valid c.requires)).letters)

pub overflow_add-size-2 : goal.overflow_add-size-2
overflow_add-size-2 c = omega (arith, (valid-ranges _ _ (holds-valid c.requires)).letters, count-few c.requires)

pub overflow_add-size-3 : goal.overflow_add-size-3
overflow_add-size-3 c = omega (arith, (valid-ranges _ _ (holds-valid c.requires)).letters, count-few c.requires)

pub returns-then-out-size : goal.returns-then-out-size
returns-then-out-size c = record { answer = ap Err c.of_call.ensures ∙ result-short 256 2048 (automaton_of c.args.file.now) (length c.args.out.now) (omega (arith, c.if-block-gt2048.false, holds_plain c.requires)) (omega (arith, c.if-out-size.true, result-length c.requires)); output = refl }

pub write_file-requires : goal.write_file-requires
write_file-requires c = record { holds = c.requires; plain_bound = (c.if-block-gt2048.false, omega (arith, c.if-out-size.false, result-length c.requires)) }

pub returns : goal.returns
returns c = let e = result-length c.requires in record { answer = ap Ok (sym e) ∙ result-bytes 256 2048 (automaton_of c.args.file.now) (length c.args.out.now) (omega (arith, c.if-block-gt2048.false, holds_plain c.requires)) (omega (arith, c.if-out-size.false, e)); output = file-written c.write_file.ensures }
