-- `ranges::accepts_ranges` meets its contract: the working words are too few, the file has a fault, or the automaton of the file answers.
use mathlib.Core.Path.{◌∙◌, ◌≡◌, ap, refl, sym}
use lib.ListN.{length}
use Rattle.std.specs.Prelude.{Err, Ok}
use Rattle.format.specs.Reading.{reading_of}
use Rattle.ranges.proofs.Refusals.{call_fault, call_short, call_valid}
use Rattle.ranges.proofs.accepts_ranges.Goals as goal
use Rattle.ranges.proofs.accepts_ranges.Goals.{In-Ok}

-- the working words are too few
pub returns-then-work-lt8192 : goal.returns-then-work-lt8192
returns-then-work-lt8192 c = record { same = refl; answer = ap Err c.of_call.ensures ∙ call_short c.args.file.now c.args.places.now (length c.args.work.now) c.if-work-lt8192.true }

-- the file has a fault
pub returns-in_default : goal.returns-in_default
returns-in_default c = record { same = refl; answer = ap Err c.of.ensures ∙ sym (call_fault c.args.file.now c.args.places.now (length c.args.work.now) c.if-work-lt8192.false (sym c.read-reading.ensures ∙ c.unwrap_err.ensures)) }

-- the file is valid
valid : (z : goal.In-Ok) → reading_of z.args.file.now ≡ Ok z.in-Ok.c
valid z = sym z.read-reading.ensures ∙ z.in-Ok.is

pub judge_valid-requires : goal.judge_valid-requires
judge_valid-requires c = (valid (goal.at.judge_valid-requires c).In-Ok, c.if-work-lt8192.false)

pub returns : goal.returns
returns c = record { same = c.judge_valid.ensures.same; answer = c.judge_valid.ensures.answer ∙ call_valid c.args.file.now c.args.places.now (length c.args.work.now) c.if-work-lt8192.false (valid (goal.at.returns c).In-Ok) }
