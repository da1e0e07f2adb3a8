-- `line_comparison::different_line` meets its contract: each field is written behind the one before, the newline behind the last.
use Rattle.std.proofs.Common.{rules}
use Rattle.line_text.proofs.Laws.{then}
use Rattle.line_comparison.proofs.different_line.Goals as goal

pub returns : goal.returns
returns c = search (rules, then c.put.ensures.0 (then c.decimal_field.ensures.0 (then c.front_field.ensures.0 c.put_byte.ensures.0)))
