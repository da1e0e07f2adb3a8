-- `join_intersection::write_product` meets its contract.
use mathlib.Core.Path.{◌≡◌, ◌∙◌, ap, ap₂}
use mathlib.Core.List.{List, ◌++◌, map}
use Prim.Native.Nat.{ℕ, ◌+◌, ◌*◌, ◌≤◌}
use native.Mathlib.Omega.{arith}
use lib.ListN.{length}
use Rattle.automata.specs.Automaton.{Automaton, letters}
use Rattle.automata.specs.Joins.{both_final, intersection}
use Rattle.relettering.specs.Relettering.{with_letters}
use Rattle.file_fields.specs.declared.Counts.{Counts}
use Rattle.format.specs.Decoding.{automaton_of}
use Rattle.format.specs.Encoding.{arcs_bytes, bytes_of, flag_byte, header_bytes}
use Rattle.file_writing.proofs.Laws.{Appended-ends, written_then}
use Rattle.join_parts.specs.OwnNumbers.{by_first, roomy}
use Rattle.join_parts.proofs.Laws.{roomy-ends, roomy-from, roomy-length, roomy_letters, valid-lengths}
use Rattle.join_product_count.specs.ProductArcs.{product_of}
use Rattle.join_intersection.proofs.BothFlags.{flags-length}
use Rattle.join_intersection.proofs.IntersectionBytes.{intersection-states}
use Rattle.join_intersection.proofs.write_product.Goals as goal
use Rattle.join_intersection.proofs.write_product.Goals.{Start}

-- the intersection by the first's numbers, its flags; its parts, and room for them
abbrev joined : goal.Start → Automaton
joined s = product_of s.args.first.now s.args.others.now s.args.second.now

abbrev flags : goal.Start → List ℕ
flags s = map flag_byte (both_final (automaton_of s.args.first.now).finals (automaton_of s.args.second.now).finals)

parts : (s : goal.Start) → bytes_of (roomy s.args.c.letters (joined s)) ≡ (header_bytes s.args.c ++ roomy_letters s.args.c.letters s.args.a.letters (automaton_of s.args.first.now).alphabet) ++ (flags s ++ arcs_bytes (joined s).arcs)
unfolding intersection with_letters
parts s = roomy-from s.args.c.letters s.args.a.letters (joined s) s.requires.3 (valid-lengths _ _ s.requires.0.first).0

flag_count : (s : goal.Start) → length (flags s) ≡ s.args.a.states * s.args.b.states
flag_count s = flags-length (automaton_of s.args.first.now).finals (automaton_of s.args.second.now).finals (valid-lengths _ _ s.requires.0.first).1 (valid-lengths _ _ s.requires.0.second).1

pairs : (s : goal.Start) → length (joined s).finals ≡ s.args.a.states * s.args.b.states
unfolding with_letters
pairs s = intersection-states (automaton_of s.args.first.now) (by_first s.args.first.now s.args.others.now s.args.second.now) ∙ ap₂ (λ (m n : ℕ). m * n) (valid-lengths _ _ s.requires.0.first).1 (valid-lengths _ _ s.requires.0.second).1

room : (s : goal.Start) → 12 + s.args.c.letters + s.args.a.states * s.args.b.states + length (arcs_bytes (joined s).arcs) ≤ length s.args.out.now
unfolding intersection
room s = let inside : letters (joined s) ≤ s.args.c.letters = omega (arith, (valid-lengths _ _ s.requires.0.first).0, s.requires.2) in
    omega (arith, s.requires.4, roomy-length s.args.c.letters (joined s) inside, pairs s)

pub write_roomy_front-flags-requires : goal.write_roomy_front-flags-requires
write_roomy_front-flags-requires c = (c.requires.1, c.requires.0.first, c.requires.2, omega (arith, room (goal.at.write_roomy_front-flags-requires c).Start))

pub write_both_flags-arcs-requires : goal.write_both_flags-arcs-requires
write_both_flags-arcs-requires c = (c.requires.0.first, c.requires.0.second, omega (arith, room (goal.at.write_both_flags-arcs-requires c).Start, roomy-ends _ _ c.requires.0.first c.args.c c.requires.2 c.write_roomy_front-flags.ensures))

pub write_product_arcs-requires : goal.write_product_arcs-requires
unfolding roomy
write_product_arcs-requires c = let many = ap (λ (d : Counts). d.states) c.requires.3 in
    (c.requires.0, omega (arith, c.requires.1.states, many, pairs (goal.at.write_product_arcs-requires c).Start), omega (arith, room (goal.at.write_product_arcs-requires c).Start, flag_count (goal.at.write_product_arcs-requires c).Start, roomy-ends _ _ c.requires.0.first c.args.c c.requires.2 c.write_roomy_front-flags.ensures, Appended-ends c.write_both_flags-arcs.ensures))

pub returns : goal.returns
returns c = rw (parts (goal.at.returns c).Start) (written_then c.write_roomy_front-flags.ensures (written_then c.write_both_flags-arcs.ensures c.write_product_arcs.ensures))
