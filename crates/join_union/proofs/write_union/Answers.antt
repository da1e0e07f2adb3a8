-- `join_union::write_union` meets its contract.
use mathlib.Core.Path.{◌∙◌, ◌≡◌, ap, sym}
use mathlib.Core.List.{[], ◌++◌, ◌∷◌, map}
use Prim.Native.Nat.{◌+◌, ◌≤◌}
use native.Mathlib.Omega.{arith}
use lib.ListN.{length}
use Rattle.automata.specs.Automaton.{Automaton}
use Rattle.automata.specs.Joins.{union}
use Rattle.file_fields.specs.declared.Counts.{Counts}
use Rattle.format.specs.Encoding.{arcs_bytes, bytes_of, flag_byte, header_bytes}
use Rattle.format.specs.Decoding.{automaton_of}
use Rattle.file_writing.proofs.Laws.{Appended-ends, written_then}
use Rattle.join_parts.specs.OwnNumbers.{roomy}
use Rattle.join_parts.proofs.Laws.{flags-end, roomy-ends, roomy_letters, valid-lengths}
use Rattle.join_union.proofs.UnionBytes.{union-parts, union-roomy-counts, union-roomy-length}
use Rattle.join_union.proofs.write_union.Goals as goal
use Rattle.join_union.proofs.write_union.Goals.{After-write_roomy_front-flags, Start}

abbrev left : goal.Start → Automaton
left s = automaton_of s.args.first.now

abbrev right : goal.Start → Automaton
right s = automaton_of s.args.second.now

-- the parts, and that they are written one behind the other
abbrev parts : (s : goal.Start) → let x = left s in let y = right s in bytes_of (roomy s.args.c.letters (union x y)) ≡ (header_bytes s.args.c ++ roomy_letters s.args.c.letters s.args.a.letters x.alphabet) ++ ((0 ∷ []) ++ (map flag_byte x.finals ++ (map flag_byte y.finals ++ arcs_bytes (union x y).arcs)))
parts s = union-parts (left s) (right s) s.requires.2 (valid-lengths _ _ s.requires.0).0

pub returns : goal.returns
returns c = rw (parts (goal.at.returns c).Start)
    (written_then c.write_roomy_front-flags.ensures (written_then c.write_byte-left.ensures (written_then c.write_flags-right.ensures (written_then c.write_flags-arcs.ensures c.write_union_arcs.ensures))))

-- the letters of the first are no more than there is room for
inside : (s : goal.Start) → length (left s).alphabet ≤ s.args.c.letters
inside s = omega (arith, (valid-lengths _ _ s.requires.0).0, s.requires.4)

all-states : (s : goal.Start) → s.args.c.states ≡ 1 + s.args.a.states + s.args.b.states
all-states s = omega (arith, ap (λ (c : Counts). c.states) (sym s.requires.2 ∙ union-roomy-counts (left s) (right s) s.args.c.letters (inside s)), (valid-lengths _ _ s.requires.0).1, (valid-lengths _ _ s.requires.1).1)

-- there is room for them, and each writer has what it asks for
room : (s : goal.Start) → 13 + s.args.c.letters + s.args.a.states + s.args.b.states + length (arcs_bytes (union (left s) (right s)).arcs) ≤ length s.args.out.now
room s = omega (arith, s.requires.5, union-roomy-length (left s) (right s) s.args.c.letters (inside s), (valid-lengths _ _ s.requires.0).1, (valid-lengths _ _ s.requires.1).1)

pub write_roomy_front-flags-requires : goal.write_roomy_front-flags-requires
write_roomy_front-flags-requires c = (c.requires.3, c.requires.0, c.requires.4, omega (arith, room (goal.at.write_roomy_front-flags-requires c).Start))

-- where the front ends
front-end : (f : goal.After-write_roomy_front-flags) → (f.write_roomy_front-flags.result ≡ 12 + f.args.c.letters) × (length f.write_roomy_front-flags.new.out ≡ length f.args.out.now)
front-end f = roomy-ends _ _ f.requires.0 f.args.c f.requires.4 f.write_roomy_front-flags.ensures

pub write_byte-left-requires : goal.write_byte-left-requires
write_byte-left-requires c = omega (arith, room (goal.at.write_byte-left-requires c).Start, front-end (goal.at.write_byte-left-requires c).After-write_roomy_front-flags)

pub write_flags-right-requires : goal.write_flags-right-requires
write_flags-right-requires c = (c.requires.0, omega (arith, room (goal.at.write_flags-right-requires c).Start, front-end (goal.at.write_flags-right-requires c).After-write_roomy_front-flags, Appended-ends c.write_byte-left.ensures))

pub write_flags-arcs-requires : goal.write_flags-arcs-requires
write_flags-arcs-requires c = (c.requires.1, omega (arith, room (goal.at.write_flags-arcs-requires c).Start, front-end (goal.at.write_flags-arcs-requires c).After-write_roomy_front-flags, Appended-ends c.write_byte-left.ensures, flags-end _ _ c.requires.0 c.write_flags-right.ensures))

pub write_union_arcs-requires : goal.write_union_arcs-requires
write_union_arcs-requires c = (
  c.requires.0,
  c.requires.1,
  omega (arith, c.requires.3.states, all-states (goal.at.write_union_arcs-requires c).Start),
  omega (arith, room (goal.at.write_union_arcs-requires c).Start, front-end (goal.at.write_union_arcs-requires c).After-write_roomy_front-flags, Appended-ends c.write_byte-left.ensures, flags-end _ _ c.requires.0 c.write_flags-right.ensures, flags-end _ _ c.requires.1 c.write_flags-arcs.ensures),
)
