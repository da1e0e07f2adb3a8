-- `table_file_steps::take_arc` meets its contract: the arc has a letter, passes and leads to a configuration that is found, whose row
-- joins; or nothing joins.
use mathlib.Core.Path.{◌≡◌, ◌∙◌, ap, subst, sym}
use Prim.Native.Nat.{ℕ, ◌*◌, ◌+◌, ◌^◌}
use native.Mathlib.Omega.{arith}
use Rattle.table_operations.specs.Packed.{Fitting}
use Rattle.std.specs.Prelude.{Some, None}
use Rattle.word_fields.proofs.Laws.{found-hit, found-none, kept_same, kept-wider}
use Rattle.table_file_steps.proofs.VisitFile.{leads-none, leads_one, not_taken, taken}
use Rattle.table_file_steps.proofs.take_arc.Goals as goal

-- it has no letter
pub returns-then-letter-ge64 : goal.returns-then-letter-ge64
returns-then-letter-ge64 c = record { kept = kept_same _ _ _; set = not_taken c.args.file.now c.args.at c.args.own c.args.w.now c.args.block c.args.acc c.args.met (λ p j h q. omega (arith, c.if-letter-ge64.true, c.byte-letter.ensures.0, q.letter)) }

-- it does not pass
pub returns-in_default : goal.returns-in_default
returns-in_default c = record {
  kept = kept_same _ _ _;
  set = not_taken c.args.file.now c.args.at c.args.own c.args.w.now c.args.block c.args.acc c.args.met
      (λ p j h q. let e : None ≡ Some q.regs = sym c.in_default.is ∙ c.pass.ensures.0 ∙ q.outcome in let z : ◌≡◌ {A = ℕ} 0 1 = cc in omega arith);
}

pub configuration-key-requires : goal.configuration-key-requires
configuration-key-requires c = (c.byte.ensures.1, subst Fitting c.in-Some.is c.pass.ensures.1)

-- its target is found
pub returns : goal.returns
returns c = record {
  kept = kept-wider (omega arith) (omega (arith, c.if-letter-ge64.false)) c.into.ensures.kept;
  set = taken c.args.file.now c.args.at c.args.own c.args.w.now c.args.block c.into.new.w c.args.acc c.args.met c.into.result c.byte-letter.result c.in-Some-find_word.t c.into.ensures.set
      (leads_one c.args.file.now c.args.at c.args.own c.args.w.now c.args.block c.byte-letter.ensures.0 (sym c.pass.ensures.0 ∙ c.in-Some.is)
      (c.configuration-key.ensures ∙ ap (λ (x : ℕ). c.in-Some.regs + x * 2 ^ 32) c.byte.ensures.0)
      (found-hit c.in-Some-find_word.ensures.0 c.in-Some-find_word.ensures.1) c.requires.1.1.1 c.in-Some-find_word.ensures.0);
}

-- it is not found
pub returns-in_default-find_word : goal.returns-in_default-find_word
returns-in_default-find_word c = record {
  kept = kept_same _ _ _;
  set = not_taken c.args.file.now c.args.at c.args.own c.args.w.now c.args.block c.args.acc c.args.met
      (leads-none c.args.file.now c.args.at c.args.own c.args.w.now c.args.block c.byte-letter.ensures.0 (sym c.pass.ensures.0 ∙ c.in-Some.is)
      (c.configuration-key.ensures ∙ ap (λ (x : ℕ). c.in-Some.regs + x * 2 ^ 32) c.byte.ensures.0)
      (found-none c.in_default-find_word.ensures) (omega arith));
}
