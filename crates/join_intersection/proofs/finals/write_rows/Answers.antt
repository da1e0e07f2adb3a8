use mathlib.Core.Path.{◌≡◌}
use mathlib.Core.List.{◌++◌, map}
use Prim.Native.Nat.{ℕ, ◌+◌}
use native.Mathlib.Omega.{arith}
use lib.ListN.{get_or, length-map, length-replicate, replicate}
use Rattle.automata.specs.Joins.{both_final}
use Rattle.format.specs.Decoding.{automaton_of, is_final}
use Rattle.format.specs.Encoding.{flag_byte}
use Rattle.file_writing.proofs.Laws.{Left, left-all, left-fits, left_less, left-none}
use Rattle.join_parts.proofs.Laws.{valid-lengths}
use Rattle.join_intersection.proofs.BothFlags.{flags_from, flags-none, flags-final, flags-other, flags-length}
use Rattle.join_intersection.proofs.finals.write_rows.Goals as goal
use Rattle.join_intersection.proofs.finals.write_rows.Goals.{In-loop-flag, then-is_set, else-is_set}

-- a row is written in this turn, by the flag
final-turn : (c : goal.In-loop-flag) → get_or c.args.flags.now c.loop-flag.flag-index 0 ≡ 1 → let y = (automaton_of c.args.file.now).finals in
    Left c.args.at (map flag_byte (both_final (map is_final c.args.flags.now) y)) c.args.out.now c.loop-flag.to (map flag_byte y ++ flags_from c.args.flags.now y (c.loop-flag.flag-index + 1)) c.loop-flag.out
final-turn c e = rw (flags-final c.args.flags.now (automaton_of c.args.file.now).finals c.loop-flag.flag-index (omega arith) e) at c.loop-flag.invariant

other_turn : (c : goal.In-loop-flag) → (get_or c.args.flags.now c.loop-flag.flag-index 0 ≡ 1 → ⊥) → let y = (automaton_of c.args.file.now).finals in
    Left c.args.at (map flag_byte (both_final (map is_final c.args.flags.now) y)) c.args.out.now c.loop-flag.to (replicate c.args.c.states 0 ++ flags_from c.args.flags.now y (c.loop-flag.flag-index + 1)) c.loop-flag.out
other_turn c n = rw (flags-other c.args.flags.now (automaton_of c.args.file.now).finals c.loop-flag.flag-index (omega arith) n, (valid-lengths _ _ c.requires.0).1) at c.loop-flag.invariant

pub loop-flag-init : goal.loop-flag-init
loop-flag-init c = left-all (omega (arith, c.requires.1, flags-length (map is_final c.args.flags.now) (automaton_of c.args.file.now).finals (length-map c.args.flags.now is_final) (valid-lengths _ _ c.requires.0).1))

pub write_flags-to-requires : goal.write_flags-to-requires
write_flags-to-requires c = let room = left-fits (map flag_byte (automaton_of c.args.file.now).finals) _ (final-turn (goal.at.write_flags-to-requires c).In-loop-flag c.if-is_set.true) in
    (c.requires.0, omega (arith, valid-lengths _ _ c.requires.0))

pub write_zeros-to-requires : goal.write_zeros-to-requires
write_zeros-to-requires c = let room = left-fits (replicate c.args.c.states 0) _ (other_turn (goal.at.write_zeros-to-requires c).In-loop-flag c.if-is_set.false) in
    omega (arith, length-replicate {A = ℕ} c.args.c.states 0)

pub loop-flag-preserved : goal.loop-flag-preserved
loop-flag-preserved c =
    elim c.if-is_set.branch [ then-is_set w ↦ rw (w.out-is, w.to-is) (left_less _ (final-turn (goal.at.loop-flag-preserved c).In-loop-flag w.if-is_set.true) w.write_flags-to.ensures) | else-is_set w ↦ rw (w.out-is, w.to-is) (left_less _ (other_turn (goal.at.loop-flag-preserved c).In-loop-flag w.if-is_set.false) w.write_zeros-to.ensures) ]

pub returns : goal.returns
returns c = left-none (rw (flags-none c.args.flags.now (automaton_of c.args.file.now).finals c.loop-flag.flag-index (omega arith)) at c.loop-flag.invariant)
