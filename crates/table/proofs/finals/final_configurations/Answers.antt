use borrow.Author.Tests.{eq-eqb, ne_eqb}
use mathlib.Core.Path.{◌≡◌}
use native.Mathlib.Omega.{arith}
use Rattle.file_laws.proofs.Laws.{valid-ranges}
use Rattle.table.proofs.FinalLaws.{Sifted-in, Sifted-out, Sifted-start}
use Rattle.table.proofs.Standing.{numbered-finals, numbered-flags}
use Rattle.table.proofs.finals.final_configurations.Goals as goal
use Rattle.table.proofs.finals.final_configurations.Goals.{then-file-flags-eq1, else-file-flags-eq1}

pub flags_at-flags-requires : goal.flags_at-flags-requires
flags_at-flags-requires c = (valid-ranges _ _ c.requires.valid).letters

pub loop-i-init : goal.loop-i-init
loop-i-init c = (omega arith, Sifted-start _ _ c.empty-out.ensures)

pub overflow_add-flags : goal.overflow_add-flags
overflow_add-flags c = omega (arith, c.state_of-state.ensures, numbered-flags c.requires c.loop-i.i c.loop-i-test.true)

pub bounds-file-flags : goal.bounds-file-flags
bounds-file-flags c = omega (arith, c.state_of-state.ensures, numbered-flags c.requires c.loop-i.i c.loop-i-test.true)

pub loop-i-preserved : goal.loop-i-preserved
loop-i-preserved c = elim c.if-file-flags-eq1.branch [
  | then-file-flags-eq1 w ↦ rw w.out-is (omega arith, Sifted-in w.with-more.result c.loop-i.invariant.1 (rw (← c.state_of-state.ensures) (eq-eqb _ _ w.if-file-flags-eq1.true)) w.with-more.ensures)
  | else-file-flags-eq1 w ↦ rw w.out-is (omega arith, Sifted-out c.loop-i.invariant.1 (rw (← c.state_of-state.ensures) (ne_eqb _ _ w.if-file-flags-eq1.false)))
]

pub returns : goal.returns
returns c = let e : c.loop-i.i ≡ c.args.count = omega arith in numbered-finals c.requires c.loop-i.out (rw (e, c.flags_at-flags.ensures) at c.loop-i.invariant.1.holds)
