-- ClosureBytes: the bytes of a closure, part by part in the order in which they are written, and how many they are.
use mathlib.Core.Path.{◌∙◌, ◌≡◌, ap, refl}
use mathlib.Core.List.{[], ◌++◌, ◌∷◌, map}
use Prim.Native.Nat.{◌*◌, ◌+◌, ℕ}
use native.Mathlib.Omega.{arith}
use lib.ListN.{length, length-append, length-map}
use Rattle.automata.specs.Automaton.{Automaton, states, letters}
use Rattle.automata.specs.Joins.{clearing, closure, empty_move, final_states, moved_arc, moved}
use Rattle.file_fields.specs.declared.Counts.{Counts}
use Rattle.format.specs.Encoding.{arc_bytes, arcs_bytes, bytes_of, flag_byte, header_bytes, sizes}
use Rattle.file_fields.specs.Parts.{first_arc}
use Rattle.file_laws.proofs.Laws.{bytes-length}
use Rattle.join_parts.proofs.Laws.{arcs-moved-length, entry_length, moved-states, returning, returning-length}
use Rattle.file_writing.proofs.Laws.{arcs-append, bytes-from}

module _ (a : Automaton) where
  pub closure-parts : {c : Counts} → sizes (closure a) ≡ c → bytes_of (closure a) ≡ (header_bytes c ++ a.alphabet) ++ ((1 ∷ []) ++ (map flag_byte a.finals ++ arcs_bytes (closure a).arcs))
  unfolding closure
  closure-parts e = bytes-from (closure a) ∙ ap (λ (d : Counts). (header_bytes d ++ a.alphabet) ++ (1 ∷ (map flag_byte a.finals ++ arcs_bytes (closure a).arcs))) e

  pub closure-arc-parts : {n : ℕ} → a.registers ≡ n
      → arcs_bytes (closure a).arcs ≡ arc_bytes (empty_move 0 1) ++ (arcs_bytes (map (moved_arc 1 0) a.arcs) ++ arcs_bytes (map (returning 1 1 n) (final_states 0 a.finals)))
  unfolding closure arcs_bytes
  closure-arc-parts {n} e = rw (e, moved-states 1 a.arcs, arcs-append (map (moved_arc 1 0) a.arcs) (map (returning 1 1 n) (final_states 0 a.finals)))

  pub closure-length : length (bytes_of (closure a)) ≡ first_arc (sizes (closure a)) + 6 + length (arcs_bytes a.arcs) + length (final_states 0 a.finals) * (4 + 2 * length (clearing a.registers))
  closure-length =
      let e = arcs-moved-length 1 0 a.arcs in
      let f = returning-length 1 1 a.registers (final_states 0 a.finals) in
      let g = entry_length 1 in
      omega (arith, bytes-length (closure a), simp length-append at (ap length (closure-arc-parts refl)))

  pub closure-counts : sizes (closure a)
      ≡ record { letters = letters a; states = 1 + states a; registers = a.registers; symbols = a.symbols; arcs = 1 + length a.arcs + length (final_states 0 a.finals) }
  unfolding closure
  closure-counts =
      let l = map (moved 1) a.arcs in
      let r = map (returning 1 1 a.registers) (final_states 0 a.finals) in
      let s : length (closure a).finals ≡ 1 + states a = omega arith in
      let m : length (closure a).arcs ≡ 1 + length a.arcs + length (final_states 0 a.finals)
      = omega (arith, length-append l r, length-map a.arcs (moved 1), length-map (final_states 0 a.finals) (returning 1 1 a.registers)) in
      λ i. record { letters = letters a; states = s i; registers = a.registers; symbols = a.symbols; arcs = m i }
