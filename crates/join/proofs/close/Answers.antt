-- `join::close` meets its contract.
use mathlib.Core.Path.{◌∙◌, ap, sym, refl}
use Rattle.std.specs.Prelude.{Err}
use Rattle.join_parts.proofs.Laws.{closed-fault, closed-valid}
use Rattle.join.proofs.close.Goals as goal

pub returns-in_default : goal.returns-in_default
returns-in_default c = record { answer = ap Err c.of.ensures ∙ sym (closed-fault _ _ (sym c.read-reading.ensures ∙ c.unwrap_err.ensures)); output = refl }

pub repeat-requires : goal.repeat-requires
repeat-requires c = sym c.read-reading.ensures ∙ c.in-Ok.is

pub returns : goal.returns
returns c = let valid = sym c.read-reading.ensures ∙ c.in-Ok.is in record { answer = c.repeat.ensures.answer ∙ sym (closed-valid _ _ valid); output = c.repeat.ensures.output }
