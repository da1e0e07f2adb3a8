-- `compare_witness::judge_pair` meets its contract: a case for each return.
use mathlib.Core.Bool.{Bool, true, false}
use Rattle.compare_witness.proofs.FirstDifference.{judges, Judges}
use Rattle.compare_witness.specs.Spelled.{alone}
use Rattle.std.proofs.Common.{◌≡◌, rules}
use Rattle.compare_witness.proofs.judge_pair.Goals as goal
use Rattle.compare_witness.proofs.judge_pair.Goals.{After-meets-y}

told : (m : goal.After-meets-y) (X Y : Bool) → m.meets-x.result ≡ X → m.meets-y.result ≡ Y
    → Judges m.args.t m.args.w.now m.args.i m.args.f m.args.g (alone X Y)
told m X Y ex ey = judges m.args.t m.args.w.now m.args.i m.args.f m.args.g m.left.result m.right.result m.meets-x.result m.meets-y.result X Y
    m.left.ensures m.right.ensures m.meets-x.ensures m.meets-y.ensures ex ey

pub returns-in-true-false : goal.returns-in-true-false
unfolding alone
returns-in-true-false c = told (goal.at.returns-in-true-false c).After-meets-y true false (search rules) (search rules)

pub returns-in-false-true : goal.returns-in-false-true
unfolding alone
returns-in-false-true c = told (goal.at.returns-in-false-true c).After-meets-y false true (search rules) (search rules)

pub returns-in_default : goal.returns-in_default
unfolding alone
returns-in_default c = told (goal.at.returns-in_default c).After-meets-y true true (search rules) (search rules)

pub returns-in_default-2 : goal.returns-in_default-2
unfolding alone
returns-in_default-2 c = told (goal.at.returns-in_default-2 c).After-meets-y false false (search rules) (search rules)
