-- `scanner::ra_accepts_words` meets its contract.
use mathlib.Core.Path.{◌∙◌, ap}
use Rattle.scanner.specs.Results.{judged_fields}
use Rattle.scanner.proofs.ra_accepts_words.Goals as goal

pub returns : goal.returns
returns c = record { same = c.accepts_words.ensures.same; answer = c.into.ensures ∙ ap judged_fields c.accepts_words.ensures.answer; answers = rw (← c.accepts_words.ensures.answer) c.accepts_words.ensures.answers }
