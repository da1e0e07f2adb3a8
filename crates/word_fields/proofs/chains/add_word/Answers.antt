-- `word_fields::chains::add_word` meets its contract: the word and its chain lie apart.
use native.Mathlib.Omega.{arith}
use mathlib.Core.Path.{◌∙◌}
use lib.ListN.{length-set}
use Rattle.word_fields.proofs.WordLaws.{added}
use Rattle.word_fields.proofs.chains.add_word.Goals as goal

pub push-requires : goal.push-requires
push-requires c = simp length-set (omega (arith, c.slot_of.ensures.1))

pub shape_of-w : goal.shape_of-w
shape_of-w c = c.push.ensures.kept.long ∙ simp length-set

pub returns : goal.returns
returns c = let whole = added c.args.n c.args.x c.requires c.slot_of.ensures.0 c.slot_of.ensures.1 c.push.ensures.kept c.push.ensures.chain in record { kept = whole.0; word = whole.1.0; chain = whole.1.1 }
