-- Refusals: the tests of comparing decide the conditions of its refusals.
use mathlib.Core.List.{List}
use Prim.Native.Nat.{ℕ}
use native.Mathlib.Omega.{arith}
use lib.ListN.{length}
use Rattle.automata.specs.Unfolding.{plain_arcs}
use Rattle.automata.specs.Words.{places}
use Rattle.automata.proofs.Laws.{comparing_more, iff-trans}
use Rattle.relettering.specs.Relettering.{over_both}
use Rattle.relettering.proofs.Laws.{configurations-same, plain-many}
use Rattle.format.specs.Decoding.{automaton_of}
use Rattle.file_laws.proofs.Laws.{Decide, decided, either_less, fault_decided, less-decided, less-iff, reach-decided}
use Rattle.compare_promise.specs.Comparing.{count_refusals, limit_refusals, refusals, table_refusals}
use Rattle.compare_promise.specs.Promised.{conditions, letters_in, over_all, table_conditions}

tables_decided : (first second : List ℕ) → Decide (over_both (table_refusals 256 2048 512) (automaton_of first) (automaton_of second)) (table_conditions first second)
unfolding table_refusals limit_refusals count_refusals
tables_decided first second =
    let x = automaton_of first in
    let y = automaton_of second in
    let all = letters_in first second in (
      rw (configurations-same x (places all x.alphabet) all 256) (reach-decided x 256 _ _),
      (
        rw (plain-many x (places all x.alphabet) all 256) (less-decided 2048 (length (plain_arcs x 256)) _ _),
        (
          rw (configurations-same y (places all y.alphabet) all 256) (reach-decided y 256 _ _),
          (
            rw (plain-many y (places all y.alphabet) all 256) (less-decided 2048 (length (plain_arcs y 256)) _ _),
            (decided _ _ _ (iff-trans (less-iff 512 _) (comparing_more (over_all first second first) (over_all first second second) 256 512)), tt),
          ),
        ),
      ),
    )

-- each test of the call decides its condition
pub refusals-decide : (first second : List ℕ) (words buffer : ℕ) → Decide (refusals 256 2048 512 first second words buffer) (conditions first second words buffer)
unfolding refusals
refusals-decide first second words buffer = (
  decided _ _ _ (either_less words 8192 buffer 512),
  (fault_decided first _, (fault_decided second _, (less-decided 64 (length (letters_in first second)) _ _, tables_decided first second))),
)
