use native.Mathlib.Omega.{arith}
use mathlib.Core.Path.{ap, ◌∙◌}
use Rattle.word_fields.specs.Fields.{field}
use Rattle.word_fields.specs.Chains.{slot}
use Rattle.word_fields.proofs.Lookup.{Looked-start, Looked-more, Looked-none}
use Rattle.word_fields.proofs.chains.find_word.Goals as goal

pub get16-g-requires : goal.get16-g-requires
get16-g-requires c = omega (arith, c.slot_of.ensures.1)

pub loop-g-init : goal.loop-g-init
loop-g-init c = Looked-start c.requires.1 c.requires.0.few (λ i e. ap slot e) (omega (arith, c.slot_of.ensures)) (c.get16-g.ensures.0 ∙ ap (field c.args.w.now c.args.heads) c.slot_of.ensures.0)

pub offset_bounds-w-table : goal.offset_bounds-w-table
offset_bounds-w-table c = omega (arith, c.well_formed.0.1)

pub returns-then-w-table : goal.returns-then-w-table
returns-then-w-table c = (c.loop-g-test.true, c.if-w-table.true)

pub loop-g-smaller : goal.loop-g-smaller
loop-g-smaller c = (Looked-more c.requires.1 c.requires.0.few (λ i e. ap slot e) (omega arith) c.if-w-table.false c.get16-g-in-loop-g.ensures.0 c.loop-g.invariant).1

pub loop-g-preserved : goal.loop-g-preserved
loop-g-preserved c = (Looked-more c.requires.1 c.requires.0.few (λ i e. ap slot e) (omega arith) c.if-w-table.false c.get16-g-in-loop-g.ensures.0 c.loop-g.invariant).0

pub returns : goal.returns
returns c = Looked-none c.requires.1 c.requires.0.few (λ i e. ap slot e) c.loop-g-test.false c.loop-g.invariant
