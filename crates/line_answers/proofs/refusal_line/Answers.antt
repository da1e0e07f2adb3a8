-- `line_answers::refusal_line` meets its contract: each field is written behind the one before, the newline behind the last.
use Rattle.std.proofs.Common.{rules}
use Rattle.line_text.proofs.Laws.{then}
use Rattle.line_answers.proofs.refusal_line.Goals as goal

pub returns : goal.returns
returns c = search (rules, then c.put.ensures.0 (then c.decimal_field.ensures.0 (then c.decimal_field-2.ensures.0 c.put_byte.ensures.0)))
