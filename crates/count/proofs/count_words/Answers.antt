-- `count::count_words` meets its contract: the working words are too few, the file has a fault, or the automaton of the file answers.
use mathlib.Core.Path.{◌∙◌, ◌≡◌, ap, refl, sym}
use lib.ListN.{length}
use Rattle.std.specs.Prelude.{Err, Ok}
use Rattle.format.specs.Reading.{reading_of}
use Rattle.count.proofs.Refusals.{call_fault, call_short, call_valid}
use Rattle.count.proofs.count_words.Goals as goal
use Rattle.count.proofs.count_words.Goals.{In-Ok}

-- the working words are too few
pub returns-then-work-lt8192 : goal.returns-then-work-lt8192
returns-then-work-lt8192 c = record { same = refl; answer = ap Err c.of_call.ensures ∙ call_short c.args.file.now c.args.size (length c.args.work.now) c.if-work-lt8192.true }

-- the file has a fault
pub returns-in_default : goal.returns-in_default
returns-in_default c = record { same = refl; answer = ap Err c.of.ensures ∙ sym (call_fault c.args.file.now c.args.size (length c.args.work.now) c.if-work-lt8192.false (sym c.read-reading.ensures ∙ c.unwrap_err.ensures)) }

-- the file is valid
valid : (z : goal.In-Ok) → reading_of z.args.file.now ≡ Ok z.in-Ok.c
valid z = sym z.read-reading.ensures ∙ z.in-Ok.is

pub count_valid-requires : goal.count_valid-requires
count_valid-requires c = (valid (goal.at.count_valid-requires c).In-Ok, c.if-work-lt8192.false)

pub returns : goal.returns
returns c = record { same = c.count_valid.ensures.same; answer = c.count_valid.ensures.answer ∙ call_valid c.args.file.now c.args.size (length c.args.work.now) c.if-work-lt8192.false (valid (goal.at.returns c).In-Ok) }
