-- Each part is written behind the one before.
use Rattle.std.proofs.Common.{rules}
use Rattle.line_text.proofs.Laws.{then}
use Rattle.run_check.proofs.put_answer.Goals as goal

pub returns : goal.returns
returns c = search (rules, then c.put.ensures.0 (then c.decimal.ensures.0 (then c.put_byte.ensures.0 (then c.put-2.ensures.0 c.put_byte-2.ensures.0))))
