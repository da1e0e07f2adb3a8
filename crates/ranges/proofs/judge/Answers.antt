-- `ranges::judge` meets its contract: what the two questions tell decides.
use mathlib.Core.Path.{◌∙◌, refl, sym}
use Rattle.ranges.proofs.SetTests.{judged-by}
use Rattle.ranges.proofs.judge.Goals as goal

-- none is accepted
pub returns-then-not-some_set : goal.returns-then-not-some_set
returns-then-not-some_set c count arcs sets h = judged-by count c.args.finals sets (sym c.if-not-some_set.true ∙ c.some_set.ensures count arcs sets h) refl

-- some are, and some are not
pub returns-then-some_set : goal.returns-then-some_set
returns-then-some_set c count arcs sets h = judged-by count c.args.finals sets
    (sym c.if-not-some_set.false ∙ c.some_set.ensures count arcs sets h)
    (sym c.if-some_set.true ∙ c.some_set-2.ensures count arcs sets h)

-- all are
pub returns : goal.returns
returns c count arcs sets h = judged-by count c.args.finals sets
    (sym c.if-not-some_set.false ∙ c.some_set.ensures count arcs sets h)
    (sym c.if-some_set.false ∙ c.some_set-2.ensures count arcs sets h)
