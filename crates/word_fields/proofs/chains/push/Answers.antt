-- `word_fields::chains::push` meets its contract: two fields are written, in words that a chain never shares.
use Rattle.word_fields.proofs.FrameLaws.{beside}
use Rattle.word_fields.proofs.ChainLaws.{pushed}
use Rattle.word_fields.proofs.chains.push.Goals as goal

pub returns : goal.returns
returns c = record { kept = beside c.put16.ensures.kept c.put16-2.ensures.kept; chain = pushed c.args.heads c.args.nexts c.args.s c.args.n c.get16-before.result c.put16.ensures.kept c.put16-2.ensures.kept c.get16-before.ensures.0 c.put16.ensures.set c.put16-2.ensures.set }
