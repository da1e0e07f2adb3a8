-- Refusals: the tests of counting decide the conditions of its refusals.
use mathlib.Core.List.{List, []}
use Prim.Native.Nat.{ℕ, ◌^◌}
use native.Mathlib.Omega.{arith}
use Rattle.automata.specs.Automaton.{letters}
use Rattle.automata.proofs.Laws.{counting_more, iff-trans}
use Rattle.format.specs.Decoding.{automaton_of}
use Rattle.file_laws.proofs.Laws.{Decide, decided, either_less, fault_decided, less-decided, less-iff, reach-decided}
use Rattle.count_promise.specs.Promised.{conditions}
use Rattle.count_promise.specs.WordCounts.{limit_refusals, refusals}

-- each test of the call decides its condition
pub refusals-decide : (file : List ℕ) (size words : ℕ) → Decide (refusals 256 512 64 18446744073709551615 file size words) (conditions file size words)
unfolding refusals limit_refusals
refusals-decide file size words = (
  less-decided words 8192 _ _,
  (
    fault_decided file _,
    (
      decided _ _ _ (either_less 64 size 18446744073709551615 (letters (automaton_of file) ^ size)),
      (
        reach-decided (automaton_of file) 256 _ _,
        (decided _ _ _ (iff-trans (less-iff 512 _) (counting_more (automaton_of file) 256 [] 512)), tt),
      ),
    ),
  ),
)
