-- `join_parts::flags::write_roomy_front` meets its contract: the part of the file that is lent has its letters.
use mathlib.Core.List.{◌++◌, append_assoc}
use native.Mathlib.Omega.{arith}
use Rattle.format.specs.Decoding.{automaton_of}
use Rattle.format.specs.Encoding.{header_bytes}
use Rattle.file_laws.proofs.Laws.{lent_alphabet, valid-letters}
use Rattle.file_writing.specs.Placing.{Appended}
use Rattle.file_writing.proofs.Laws.{front_ends, written_then}
use Rattle.join_parts.proofs.FinalFlags.{valid-lengths}
use Rattle.join_parts.proofs.flags.write_roomy_front.Goals as goal
use Rattle.join_parts.proofs.flags.write_roomy_front.Goals.{After-write_front-at}

-- header and letters
fronted : (f : goal.After-write_front-at) → Appended 0 (header_bytes f.args.c ++ (automaton_of f.args.file.now).alphabet) f.args.out.now f.write_front-at.new.out f.write_front-at.result
fronted f = rw (← lent_alphabet f.args.file.now f.args.a f.requires.1 f.flags_at-end.result f.flags_at-end.ensures) f.write_front-at.ensures

pub slice_bounds-write_front-end : goal.slice_bounds-write_front-end
slice_bounds-write_front-end c = omega (arith, c.flags_at-end.ensures, (valid-letters c.args.file.now c.args.a c.requires.1).1)

pub write_zeros-requires : goal.write_zeros-requires
write_zeros-requires c = omega (arith, front_ends _ _ (fronted (goal.at.write_zeros-requires c).After-write_front-at), (valid-lengths c.args.file.now c.args.a c.requires.1).0, c.requires.2, c.requires.3)

pub returns : goal.returns
returns c = rw (← append_assoc) (written_then (fronted (goal.at.returns c).After-write_front-at) c.write_zeros.ensures)
