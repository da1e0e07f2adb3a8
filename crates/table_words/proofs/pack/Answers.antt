-- `table_words::pack` meets its contract: what is known of the answer is known of each kind of answer.
use mathlib.Core.Path.{◌≡◌, subst}
use Prim.Native.Nat.{◌^◌, ◌<◌}
use native.Mathlib.Omega.{arith}
use Rattle.std.specs.Prelude.{Ok}
use Rattle.table.specs.declared.Membership.{Membership}
use Rattle.table_words.specs.Words.{packed}
use Rattle.table_words.proofs.pack.Goals as goal

-- the word is accepted, or rejected
fits : {a r : Membership} → a ≡ r → packed (Ok a) < 2 ^ 64 → packed (Ok r) < 2 ^ 64
fits e h = subst (λ (r : Membership). packed (Ok r) < 2 ^ 64) e h

pub overflow_mul-result : goal.overflow_mul-result
overflow_mul-result c = let h = fits c.in-Accepted.is c.requires in record { fits = omega (arith, h) }

pub overflow_add-result : goal.overflow_add-result
overflow_add-result c = record { fits = fits c.in-Accepted.is c.requires }

pub overflow_mul-result-in-Rejected : goal.overflow_mul-result-in-Rejected
overflow_mul-result-in-Rejected c = record { fits = fits c.in-Rejected.is c.requires }

pub returns-in-Accepted : goal.returns-in-Accepted
returns-in-Accepted c = rw c.in-Accepted.is

pub returns-in-Rejected : goal.returns-in-Rejected
returns-in-Rejected c = rw c.in-Rejected.is
