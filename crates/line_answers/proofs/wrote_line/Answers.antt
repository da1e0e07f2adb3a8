-- `line_answers::wrote_line` meets its contract: the bytes are written behind the word, the newline behind them.
use Rattle.std.proofs.Common.{rules}
use Rattle.line_text.proofs.Laws.{then}
use Rattle.line_answers.proofs.wrote_line.Goals as goal

pub returns : goal.returns
returns c = search (rules, then c.put.ensures.0 (then c.front_field.ensures.0 c.put_byte.ensures.0))
