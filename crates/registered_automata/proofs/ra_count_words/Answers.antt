-- `registered_automata::ra_count_words` meets its contract.
use mathlib.Core.Path.{◌∙◌, ap}
use Rattle.registered_automata.specs.Results.{word_count_fields}
use Rattle.registered_automata.proofs.ra_count_words.Goals as goal

pub returns : goal.returns
returns c = record { same = c.count_words.ensures.same; answer = c.into.ensures ∙ ap word_count_fields c.count_words.ensures.answer }
