-- `line_comparison::same_line` meets its contract: each field is written behind the one before.
use Rattle.std.proofs.Common.{rules}
use Rattle.line_text.proofs.Laws.{then}
use Rattle.line_comparison.proofs.same_line.Goals as goal

pub returns : goal.returns
returns c = search (rules, then c.put.ensures.0 (then c.decimal_field.ensures.0 c.put-2.ensures.0))
