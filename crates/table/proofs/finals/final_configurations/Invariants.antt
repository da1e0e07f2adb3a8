-- `table::finals::final_configurations` meets its contract. The loop's invariant: the set holds the final ones among the configurations below i.
use mathlib.Core.Bool.{Bool}
use mathlib.Core.List.{List}
use Prim.Native.Nat.{◌+◌, ◌/◌, ◌^◌, ◌≤◌, ℕ}
use lib.Dec.{eqb}
use lib.ListN.{get_or}
use Rattle.table.proofs.FinalLaws.{Sifted}
use Rattle.table.proofs.finals.final_configurations.Given as goal

-- the test of configuration j, as the code makes it
abbrev pub test : List ℕ → List ℕ → ℕ → ℕ → Bool
test file w flags j = eqb (get_or file (flags + get_or w (3136 + j) 0 / 2 ^ 32) 0) 1

abbrev pub invariant-loop-i : goal.invariant-loop-i
invariant-loop-i l = (l.i ≤ l.count) × Sifted (test l.file l.w l.flags) l.i l.out
