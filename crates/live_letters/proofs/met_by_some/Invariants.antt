-- `live_letters::met_by_some` meets its contract. The loop's invariant: a letter is not met just if no side so far meets it.
use Rattle.std.proofs.Common.{◌≡◌, ◌↔◌, ℕ, ◌<◌, false, get_or}
use Rattle.word_sets.specs.Sets.{bit}
use Rattle.live_letters.proofs.met_by_some.Given as goal

abbrev pub invariant-loop-side : goal.invariant-loop-side
invariant-loop-side g l = (k : ℕ) → (bit l.some k ≡ false) ↔ ((j : ℕ) → j < l.side-index → bit (get_or l.fn.met j 0) k ≡ false)
