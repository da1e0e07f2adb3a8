-- `unfold::result::write_file` meets its contract: the parts, one behind the other, are the bytes of the unfolded automaton (ResultBytes).
use mathlib.Core.Path.{◌≡◌, ap}
use mathlib.Core.List.{◌++◌}
use Prim.Native.Nat.{◌*◌, ◌+◌, ◌-◌, ◌≤◌}
use native.Mathlib.Omega.{arith}
use lib.ListN.{drop, length, take}
use Rattle.format.specs.Decoding.{automaton_of}
use Rattle.format.specs.Encoding.{header_bytes}
use Rattle.file_laws.proofs.Laws.{file-seen, lent_alphabet, valid-ranges}
use Rattle.file_writing.specs.Placing.{Appended}
use Rattle.file_writing.proofs.Laws.{Appended-length, front_ends, written_then}
use Rattle.table.proofs.Laws.{holds-end, holds-numbered, holds-room, holds-valid}
use Rattle.unfold.proofs.ResultBytes.{arcs-length, count-few, count-some, flags-size, letters-are, result-length, result_parts}
use Rattle.unfold.proofs.UnfoldedFits.{plain_counts}
use Rattle.unfold.proofs.result.write_file.Goals as goal
use Rattle.unfold.proofs.result.write_file.Goals.{After-flags_at-end, After-write_front-flags, Start}

-- there is room for the parts
room : (s : goal.Start) → 12 + s.args.c.letters + s.args.block.count + 6 * s.args.block.plain ≤ length s.args.out.now
room s = omega (arith, result-length s.requires.holds, s.requires.plain_bound.1)

-- the lent letters are those of the automaton
letters : (c : goal.After-flags_at-end) → take (c.flags_at-end.result - 12) (drop 12 c.args.file.now) ≡ (automaton_of c.args.file.now).alphabet
letters c = lent_alphabet c.args.file.now c.args.c (holds-valid c.requires.holds) _ c.flags_at-end.ensures

-- the header and these letters are written
front : (c : goal.After-write_front-flags)
    → Appended 0 (header_bytes (plain_counts c.args.c.letters c.args.block.count c.args.block.plain) ++ (automaton_of c.args.file.now).alphabet) c.args.out.now c.write_front-flags.new.out c.write_front-flags.result
front c = let letters' : take (c.flags_at-end.result - 12) (drop 12 c.args.file.now) ≡ (automaton_of c.args.file.now).alphabet = lent_alphabet c.args.file.now c.args.c (holds-valid c.requires.holds) _ c.flags_at-end.ensures in
    rw (← letters') c.write_front-flags.ensures

pub flags_at-end-requires : goal.flags_at-end-requires
flags_at-end-requires c = (valid-ranges _ _ (holds-valid c.requires.holds)).letters

pub slice_bounds-write_front-end : goal.slice_bounds-write_front-end
slice_bounds-write_front-end c = omega (arith, c.flags_at-end.ensures, (file-seen _ _ (holds-valid c.requires.holds)).there)

pub write_front-flags-requires : goal.write_front-flags-requires
write_front-flags-requires c = let r = valid-ranges _ _ (holds-valid c.requires.holds) in
    let n = count-some c.requires.holds in
    let k = count-few c.requires.holds in (
      record {
        letters = omega arith;
        some_state = omega arith;
        states = omega arith;
        some_register = omega arith;
        registers = omega arith;
        some_symbol = omega arith;
        symbols = omega arith;
        arcs = omega arith;
      },
      omega (arith, room (goal.at.write_front-flags-requires c).Start, letters-are c.requires.holds, ap length (letters (goal.at.write_front-flags-requires c).After-flags_at-end)),
    )

pub write_flags-arcs-requires : goal.write_flags-arcs-requires
write_flags-arcs-requires c = (count-few c.requires.holds, omega (arith, room (goal.at.write_flags-arcs-requires c).Start, letters-are c.requires.holds, front_ends _ _ (front (goal.at.write_flags-arcs-requires c).After-write_front-flags)))

pub write_arcs-requires : goal.write_arcs-requires
write_arcs-requires c = (
  count-few c.requires.holds,
  holds-room c.requires.holds,
  holds-end c.requires.holds c.requires.plain_bound.0,
  omega (arith, room (goal.at.write_arcs-requires c).Start, letters-are c.requires.holds, front_ends _ _ (front (goal.at.write_arcs-requires c).After-write_front-flags), c.write_flags-arcs.ensures.behind, flags-size c.args.block.count c.final_configurations-finals.result, Appended-length c.write_flags-arcs.ensures, arcs-length c.requires.holds c.requires.plain_bound.0),
)

pub returns : goal.returns
returns c = rw (result_parts c.requires.holds c.requires.plain_bound.0 c.final_configurations-finals.result c.final_configurations-finals.ensures)
    (written_then (front (goal.at.returns c).After-write_front-flags) (written_then c.write_flags-arcs.ensures c.write_arcs.ensures))

pub final_configurations-finals-requires : goal.final_configurations-finals-requires
final_configurations-finals-requires c = holds-numbered c.requires.holds
