-- `word_fields::chains::slot_of` meets its contract, by the definition of a slot.
use borrow.Author.Rules.{rules}
use Rattle.word_fields.specs.Chains.{slot}
use Rattle.word_fields.proofs.chains.slot_of.Goals as goal

pub returns : goal.returns
unfolding slot
returns c = search rules
