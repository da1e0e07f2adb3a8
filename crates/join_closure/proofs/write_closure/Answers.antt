-- `join_closure::write_closure` meets its contract.
use mathlib.Core.Path.{◌≡◌, ap, subst}
use mathlib.Core.List.{[], ◌++◌, ◌∷◌, map}
use Prim.Native.Nat.{◌+◌, ◌-◌, ◌≤◌}
use native.Mathlib.Omega.{arith}
use lib.ListN.{drop, length, length-append, take}
use Rattle.automata.specs.Joins.{closure}
use Rattle.file_fields.specs.declared.Counts.{Counts}
use Rattle.format.specs.Limits.{Ranges}
use Rattle.format.specs.Encoding.{arcs_bytes, bytes_of, flag_byte, header_bytes}
use Rattle.format.specs.Decoding.{automaton_of}
use Rattle.file_laws.proofs.Laws.{file-seen, lent_alphabet, valid-ranges}
use Rattle.file_writing.specs.Placing.{Appended}
use Rattle.file_writing.proofs.Laws.{Appended-ends, front_ends, header-length, written_then}
use Rattle.join_closure.proofs.ClosureBytes.{closure-counts, closure-parts}
use Rattle.join_parts.proofs.Laws.{flags-end, valid-lengths}
use Rattle.join_closure.proofs.write_closure.Goals as goal
use Rattle.join_closure.proofs.write_closure.Goals.{After-flags_at-end, After-write_front-flags, Start}

-- the parts, and room for them
abbrev parts : (s : goal.Start) → let x = automaton_of s.args.file.now in
    bytes_of (closure x) ≡ (header_bytes s.args.c ++ x.alphabet) ++ ((1 ∷ []) ++ (map flag_byte x.finals ++ arcs_bytes (closure x).arcs))
parts s = closure-parts (automaton_of s.args.file.now) s.requires.1

room : (s : goal.Start) → 13 + s.args.a.letters + s.args.a.states + length (arcs_bytes (closure (automaton_of s.args.file.now)).arcs) ≤ length s.args.out.now
room s = omega (arith, simp length-append at (rw (parts s) at s.requires.3), header-length s.args.c, valid-lengths _ _ s.requires.0)

-- the lent letters are those of the automaton
letters : (c : goal.After-flags_at-end) → take (c.flags_at-end.result - 12) (drop 12 c.args.file.now) ≡ (automaton_of c.args.file.now).alphabet
letters c = lent_alphabet c.args.file.now c.args.a c.requires.0 _ c.flags_at-end.ensures

-- the header and these letters are written
front : (c : goal.After-write_front-flags)
    → Appended 0 (header_bytes c.args.c ++ (automaton_of c.args.file.now).alphabet) c.args.out.now c.write_front-flags.new.out c.write_front-flags.result
front c = let letters' : take (c.flags_at-end.result - 12) (drop 12 c.args.file.now) ≡ (automaton_of c.args.file.now).alphabet = lent_alphabet c.args.file.now c.args.a c.requires.0 _ c.flags_at-end.ensures in
    rw (← letters') c.write_front-flags.ensures

pub flags_at-end-requires : goal.flags_at-end-requires
flags_at-end-requires c = (valid-ranges _ _ c.requires.0).letters

pub slice_bounds-write_front-end : goal.slice_bounds-write_front-end
slice_bounds-write_front-end c = omega (arith, c.flags_at-end.ensures, (file-seen _ _ c.requires.0).there)

pub write_front-flags-requires : goal.write_front-flags-requires
write_front-flags-requires c = (subst (λ (d : Counts). Ranges d) c.requires.1 c.requires.2.ranges, omega (arith, room (goal.at.write_front-flags-requires c).Start, valid-lengths _ _ c.requires.0, ap length (letters (goal.at.write_front-flags-requires c).After-flags_at-end)))

pub write_byte-old-requires : goal.write_byte-old-requires
write_byte-old-requires c = omega (arith, room (goal.at.write_byte-old-requires c).Start, valid-lengths _ _ c.requires.0, front_ends _ _ (front (goal.at.write_byte-old-requires c).After-write_front-flags))

pub write_flags-arcs-requires : goal.write_flags-arcs-requires
write_flags-arcs-requires c = (c.requires.0, omega (arith, room (goal.at.write_flags-arcs-requires c).Start, valid-lengths _ _ c.requires.0, front_ends _ _ (front (goal.at.write_flags-arcs-requires c).After-write_front-flags), Appended-ends c.write_byte-old.ensures))

pub write_closure_arcs-requires : goal.write_closure_arcs-requires
write_closure_arcs-requires c = (
  c.requires.0,
  omega (arith, c.requires.2.ranges.states, ap (λ (c : Counts). c.states) (closure-counts (automaton_of c.args.file.now)), valid-lengths _ _ c.requires.0),
  omega (arith, room (goal.at.write_closure_arcs-requires c).Start, valid-lengths _ _ c.requires.0, front_ends _ _ (front (goal.at.write_closure_arcs-requires c).After-write_front-flags), Appended-ends c.write_byte-old.ensures, flags-end _ _ c.requires.0 c.write_flags-arcs.ensures),
)

pub returns : goal.returns
returns c = rw (parts (goal.at.returns c).Start) (written_then (front (goal.at.returns c).After-write_front-flags) (written_then c.write_byte-old.ensures (written_then c.write_flags-arcs.ensures c.write_closure_arcs.ensures)))
