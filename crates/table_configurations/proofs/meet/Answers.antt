-- `table_configurations::meet` meets its contract: the configuration has a number, or there are too many, or it gets the next one; then the arc is noted.
use native.Mathlib.Omega.{arith}
use Prim.Native.Nat.{◌+◌}
use Rattle.word_fields.proofs.Laws.{but_high, but_same, but_then, but_wider, found-hit, found-none}
use Rattle.format.specs.Decoding.{letter_of}
use Rattle.table_configurations.proofs.FindConfiguration.{met-many, met-none, met-old}
use Rattle.table_configurations.proofs.TableGrowth.{configured-kept}
use Rattle.table_configurations.proofs.meet.Goals as goal

-- it has a number
pub returns-in-Some : goal.returns-in-Some
returns-in-Some c = record { kept = but_high (omega arith) (omega arith) (omega arith) c.note_arc.ensures.kept; safe = record { more = omega arith; few = omega arith; configured = configured-kept (λ j x y. c.note_arc.ensures.kept.below j (omega arith)) c.requires.5 }; met = λ all plains s. met-old c.requires.4 c.requires.5.few s (found-hit c.in-Some.ensures.0 c.in-Some.ensures.1) c.args.c (letter_of c.args.letter) c.in-Some.ensures.0 (c.note_arc.ensures.tabled c.args.count all plains s c.requires.0 c.requires.5.few) }

-- there are too many
pub returns-then-count-eq256 : goal.returns-then-count-eq256
returns-then-count-eq256 c = record { kept = but_same _ _ _ _ _; safe = tt; met = λ all plains s. omega (arith, c.if-count-eq256.true, met-many c.requires.4 c.requires.5.few s (found-none c.in_default.ensures) (omega arith)) }

-- it gets the next number
pub returns : goal.returns
returns c = record {
  kept = but_then (but_wider (omega arith) (omega arith) (omega arith) (omega arith) c.add_configuration.ensures.kept) (but_high (omega arith) (omega arith) (omega arith) c.note_arc-2.ensures.kept);
  safe = record { more = omega arith; few = omega arith; configured = configured-kept (λ j x y. c.note_arc-2.ensures.kept.below j (omega arith)) c.add_configuration.ensures.configured };
  met = λ all plains s.
      let q = met-none c.requires.4 c.requires.5.few s (found-none c.in_default.ensures) (omega arith) in
      rw q (c.note_arc-2.ensures.tabled (c.args.count + 1) _ plains (c.add_configuration.ensures.tabled c.args.plain all plains s q) (omega arith) (omega (arith, c.if-count-eq256.false)));
}
