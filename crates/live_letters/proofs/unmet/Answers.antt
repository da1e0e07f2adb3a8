-- `live_letters::unmet` meets its contract: a mask tells a digit.
use Rattle.std.proofs.Common.{◌≡◌, ◌∙◌, Bool, true, false, ap, not, refl, sym}
use Rattle.word_sets.proofs.Laws.{has-bit}
use Rattle.live_letters.proofs.unmet.Goals as goal

not-not : (b : Bool) → not (not b) ≡ b
not-not true = refl
not-not false = refl

pub returns : goal.returns
returns c = sym (not-not _) ∙ ap not (has-bit c.args.met c.args.l c.requires)
