-- UnionBytes: the bytes of a union with room for n letters, part by part in the order in which they are written, and how many they are.
use mathlib.Core.Path.{◌∙◌, ◌≡◌, ap, refl}
use mathlib.Core.List.{List, [], ◌++◌, ◌∷◌, append_assoc, map}
use Prim.Native.Nat.{◌+◌, ◌≤◌, ℕ, max}
use native.Mathlib.Omega.{arith}
use lib.ListN.{length, length-append, length-map}
use Rattle.automata.specs.Automaton.{Automaton, states, letters}
use Rattle.automata.specs.Joins.{empty_move, moved_arc, union, moved}
use Rattle.automata.proofs.Laws.{map-append}
use Rattle.file_fields.specs.declared.Counts.{Counts}
use Rattle.format.specs.Encoding.{arc_bytes, arcs_bytes, bytes_of, flag_byte, header_bytes, sizes}
use Rattle.file_writing.proofs.Laws.{arcs-append}
use Rattle.join_parts.specs.OwnNumbers.{roomy}
use Rattle.join_parts.proofs.Laws.{arcs-moved-length, entry_length, moved-states, roomy-counts, roomy-from, roomy-length, roomy_letters}

module _ (a b : Automaton) where
  pub union-parts : {c : Counts} {m : ℕ} → sizes (roomy c.letters (union a b)) ≡ c → letters a ≡ m
      → bytes_of (roomy c.letters (union a b)) ≡ (header_bytes c ++ roomy_letters c.letters m a.alphabet) ++ ((0 ∷ []) ++ (map flag_byte a.finals ++ (map flag_byte b.finals ++ arcs_bytes (union a b).arcs)))
  unfolding union
  union-parts {c} {m} e k =
      let arcs = arcs_bytes (union a b).arcs in
      roomy-from c.letters m (union a b) e k
      ∙ ap (λ (t : List ℕ). (header_bytes c ++ roomy_letters c.letters m a.alphabet) ++ (0 ∷ t)) (ap (λ (t : List ℕ). t ++ arcs) (map-append flag_byte a.finals b.finals) ∙ append_assoc (map flag_byte a.finals) (map flag_byte b.finals) arcs)

  module _ {n : ℕ} (e : states a ≡ n) where
    abbrev lefts : List ℕ
    lefts = arcs_bytes (map (moved_arc 1 0) a.arcs)

    abbrev rights : List ℕ
    rights = arcs_bytes (map (moved_arc (1 + n) 0) b.arcs)

    pub union-arc-parts : arcs_bytes (union a b).arcs ≡ arc_bytes (empty_move 0 1) ++ (arc_bytes (empty_move 0 (1 + n)) ++ (lefts ++ rights))
    unfolding union arcs_bytes
    union-arc-parts = rw (e, moved-states 1 a.arcs, moved-states (1 + n) b.arcs, arcs-append (map (moved_arc 1 0) a.arcs) (map (moved_arc (1 + n) 0) b.arcs))

    -- how many bytes each part takes
    pub union-arcs-length : length (arcs_bytes (union a b).arcs) ≡ 12 + length lefts + length rights
    union-arcs-length =
        let g = entry_length 1 in
        let h = entry_length (1 + n) in
        ap length union-arc-parts ∙ simp length-append (omega arith)

  pub union-counts : sizes (union a b) ≡ record { letters = letters a; states = 1 + states a + states b; registers = max a.registers b.registers; symbols = max a.symbols b.symbols; arcs = 2 + length a.arcs + length b.arcs }
  unfolding union
  union-counts =
      let l = map (moved 1) a.arcs in
      let r = map (moved (1 + states a)) b.arcs in
      let s : length (union a b).finals ≡ 1 + states a + states b = omega (arith, length-append a.finals b.finals) in
      let m : length (union a b).arcs ≡ 2 + length a.arcs + length b.arcs = omega (arith, length-append l r, length-map a.arcs (moved 1), length-map b.arcs (moved (1 + states a))) in
      λ i. record { letters = letters a; states = s i; registers = max a.registers b.registers; symbols = max a.symbols b.symbols; arcs = m i }

  -- with room for n letters
  module _ (n : ℕ) (room : letters a ≤ n) where
    pub union-roomy-counts : sizes (roomy n (union a b)) ≡ record { letters = n; states = 1 + states a + states b; registers = max a.registers b.registers; symbols = max a.symbols b.symbols; arcs = 2 + length a.arcs + length b.arcs }
    unfolding union
    union-roomy-counts = roomy-counts n (union a b) room ∙ ap (λ (c : Counts). record { letters = n; states = c.states; registers = c.registers; symbols = c.symbols; arcs = c.arcs }) union-counts

    pub union-roomy-length : length (bytes_of (roomy n (union a b))) ≡ 13 + n + states a + states b + length (arcs_bytes (union a b).arcs)
    unfolding union
    union-roomy-length = omega (arith, roomy-length n (union a b) room, ap (λ (c : Counts). c.states) union-counts)

    pub union-length : length (bytes_of (roomy n (union a b))) ≡ 25 + n + states a + states b + length (arcs_bytes a.arcs) + length (arcs_bytes b.arcs)
    union-length = omega (arith, union-roomy-length, union-arcs-length refl, arcs-moved-length 1 0 a.arcs, arcs-moved-length (1 + states a) 0 b.arcs)
