-- `line_answers::count_line` meets its contract: the number is written behind the word, the newline behind the number.
use Rattle.std.proofs.Common.{rules}
use Rattle.line_text.proofs.Laws.{then}
use Rattle.line_answers.proofs.count_line.Goals as goal

pub returns : goal.returns
returns c = search (rules, then c.put.ensures.0 (then c.decimal_field.ensures.0 c.put_byte.ensures.0))
