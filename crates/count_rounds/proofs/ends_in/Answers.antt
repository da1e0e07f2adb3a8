use Rattle.std.proofs.Common.{Bool, true, false, ◌≡◌, ◌∙◌, ap, cond, refl}
use Rattle.std.specs.Int.{from_bool}
use Rattle.word_sets.proofs.Laws.{meets-view}
use Rattle.count_rounds.specs.Rounds.{ends_in}
use Rattle.count_rounds.proofs.ends_in.Goals as goal

one_or_none : (b : Bool) → from_bool b ≡ cond b 1 0
one_or_none true = refl
one_or_none false = refl

pub returns : goal.returns
unfolding ends_in
returns c count v = c.from.ensures ∙ ap from_bool (meets-view c.args.set c.args.finals v c.meets.ensures) ∙ one_or_none _
