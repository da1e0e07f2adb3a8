use Rattle.std.proofs.Common.{◌∙◌, ◌≡◌, ap, arith, ℕ}
use Rattle.automata.specs.Lengths.{accepted_many}
use Rattle.format.specs.Decoding.{automaton_of}
use Rattle.count_targets.proofs.Laws.{counting-letters-few}
use Rattle.count_rounds.proofs.EndLaws.{ends-counted, first_counted}
use Rattle.count_rounds.proofs.RoundLaws.{taken-counted}
use Rattle.count_rounds.proofs.Slots.{rounds-kept}
use Rattle.count_rounds.proofs.count_rounds.Goals as goal

pub kept_sets-kept-requires : goal.kept_sets-kept-requires
kept_sets-kept-requires c = counting-letters-few c.requires.counting.0

pub loop-init : goal.loop-init
loop-init c = (rounds-kept (omega arith) c.count_ends.ensures.kept c.note_kept.ensures, ends-counted c.note_kept.ensures.counting c.args.finals c.requires.finals_value c.count_ends.ensures.ended)

pub loop-preserved : goal.loop-preserved
loop-preserved c = (
  rounds-kept (omega arith) c.take_next.ensures.kept c.count_next.ensures.still,
  taken-counted c.take_next.ensures.taken (c.count_next.ensures.counted c.loop.counter c.loop.invariant.1),
)

pub returns : goal.returns
returns c = let e : c.loop.counter ≡ c.args.size = omega (arith, c.loop.auto.counter-end, c.loop-test.false) in
    first_counted c.loop.invariant.0.counting c.loop.counter c.loop.w c.loop.invariant.1 ∙ ap (λ (k : ℕ). accepted_many (automaton_of c.args.file.now) 256 k) e
