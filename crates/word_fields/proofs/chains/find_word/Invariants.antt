-- `word_fields::chains::find_word` meets its contract. The loop's invariant: g is an entry of the chain of x's key, and no later word is x (Looked).
use Prim.Native.Nat.{◌+◌, ◌%◌}
use lib.ListN.{get_or}
use Rattle.word_fields.specs.Chains.{slot, WordAt}
use Rattle.word_fields.proofs.Lookup.{Looked}
use Rattle.word_fields.proofs.chains.find_word.Given as goal

abbrev pub invariant-loop-g : goal.invariant-loop-g
invariant-loop-g l = Looked (λ i. slot (get_or l.w (l.table + i) 0)) (slot l.x) (WordAt l.w l.table l.x) l.n l.g

abbrev pub decreases-loop-g : goal.decreases-loop-g
decreases-loop-g l = (l.g + 1) % 65536
