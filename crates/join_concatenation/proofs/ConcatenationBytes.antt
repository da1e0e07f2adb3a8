-- ConcatenationBytes: the bytes of a concatenation with room for n letters, part by part in the order in which they are written, and how many
-- they are.
use mathlib.Core.Path.{◌∙◌, ◌≡◌, ap, refl}
use mathlib.Core.Bool.{false}
use mathlib.Core.List.{List, ◌++◌, append_assoc, map}
use Prim.Native.Nat.{◌*◌, ◌+◌, ◌-◌, ◌≤◌, max, suc, zero, ℕ}
use native.Mathlib.Omega.{arith}
use lib.ListN.{length, length-append, length-map, length-replicate, replicate}
use Rattle.automata.specs.Automaton.{Automaton, letters, states}
use Rattle.automata.specs.Joins.{clearing, concatenation, empty_move, final_states, moved_arc}
use Rattle.automata.proofs.Laws.{map-append}
use Rattle.file_fields.specs.declared.Counts.{Counts}
use Rattle.format.specs.Encoding.{arcs_bytes, bytes_of, flag_byte, header_bytes, sizes}
use Rattle.file_writing.proofs.Laws.{arcs-append}
use Rattle.join_parts.specs.OwnNumbers.{roomy}
use Rattle.join_parts.proofs.Laws.{arcs-moved-length, empty-moves, returning, returning-length, roomy-counts, roomy-from, roomy-length, roomy_letters, unmoved}

-- the flags of states that are not final
zero_flags : (n : ℕ) → map flag_byte (replicate n false) ≡ replicate n 0
zero_flags zero = refl
zero_flags (suc n) = rw (zero_flags n)

-- empty moves that clear no register
pub moves-length : (s t : ℕ) (l : List ℕ) → length (arcs_bytes (map (returning s t 1) l)) ≡ 6 * length l
unfolding clearing
moves-length s t l = omega (arith, returning-length s t 1 l)

module _ (a b : Automaton) where
  pub concatenation-parts : {c : Counts} {m n : ℕ} → sizes (roomy c.letters (concatenation a b)) ≡ c → letters a ≡ m → states a ≡ n
      → bytes_of (roomy c.letters (concatenation a b)) ≡ (header_bytes c ++ roomy_letters c.letters m a.alphabet) ++ (replicate n 0 ++ (map flag_byte b.finals ++ arcs_bytes (concatenation a b).arcs))
  unfolding concatenation
  concatenation-parts {c} {m} {n} e k f =
      let arcs = arcs_bytes (concatenation a b).arcs in
      let flags : map flag_byte (concatenation a b).finals ≡ replicate n 0 ++ map flag_byte b.finals
      = map-append flag_byte (replicate (states a) false) b.finals ∙ ap (λ (l : List ℕ). l ++ map flag_byte b.finals) (zero_flags (states a) ∙ ap (λ (i : ℕ). replicate i 0) f) in
      roomy-from c.letters m (concatenation a b) e k
      ∙ ap (λ (t : List ℕ). (header_bytes c ++ roomy_letters c.letters m a.alphabet) ++ t) (ap (λ (t : List ℕ). t ++ arcs) flags ∙ append_assoc (replicate n 0) (map flag_byte b.finals) arcs)

  module _ {n k : ℕ} (e : states a ≡ n) (f : a.registers ≡ k) where
    abbrev lefts : List ℕ
    lefts = arcs_bytes (map (moved_arc 0 0) a.arcs)

    abbrev moves : List ℕ
    moves = arcs_bytes (map (returning 0 n 1) (final_states 0 a.finals))

    abbrev rights : List ℕ
    rights = arcs_bytes (map (moved_arc n (k - 1)) b.arcs)

    pub concatenation-arc-parts : arcs_bytes (concatenation a b).arcs ≡ lefts ++ (moves ++ rights)
    unfolding concatenation
    concatenation-arc-parts =
        let m = map (returning 0 n 1) (final_states 0 a.finals) in
        let r = map (moved_arc n (k - 1)) b.arcs in
        rw (e, f, empty-moves n (final_states 0 a.finals), unmoved a.arcs, arcs-append a.arcs (m ++ r), arcs-append m r)

  -- how many bytes each part takes
  pub concatenation-arcs-length : length (arcs_bytes (concatenation a b).arcs) ≡ length (arcs_bytes a.arcs) + 6 * length (final_states 0 a.finals) + length (arcs_bytes b.arcs)
  concatenation-arcs-length = ap length (concatenation-arc-parts refl refl) ∙ simp (length-append, arcs-moved-length, moves-length) (omega arith)

  pub concatenation-counts : {n : ℕ} → length (final_states 0 a.finals) ≡ n → sizes (concatenation a b)
      ≡ record { letters = letters a; states = states a + states b; registers = a.registers + b.registers - 1; symbols = max a.symbols b.symbols; arcs = length a.arcs + n + length b.arcs }
  unfolding concatenation
  concatenation-counts {n} e =
      let final = final_states 0 a.finals in
      let l = map (λ i. empty_move i (states a)) final in
      let r = map (moved_arc (states a) (a.registers - 1)) b.arcs in
      let s : length (concatenation a b).finals ≡ states a + states b = omega (arith, length-append (replicate (states a) false) b.finals, length-replicate (states a) false) in
      let m : length (concatenation a b).arcs ≡ length a.arcs + n + length b.arcs
      = omega (arith, length-append a.arcs (l ++ r), length-append l r, length-map final (λ i. empty_move i (states a)), length-map b.arcs (moved_arc (states a) (a.registers - 1))) in
      λ i. record { letters = letters a; states = s i; registers = a.registers + b.registers - 1; symbols = max a.symbols b.symbols; arcs = m i }

  -- with room for n letters
  module _ (n : ℕ) (room : letters a ≤ n) where
    pub concatenation-roomy-counts : {f : ℕ} → length (final_states 0 a.finals) ≡ f → sizes (roomy n (concatenation a b))
        ≡ record { letters = n; states = states a + states b; registers = a.registers + b.registers - 1; symbols = max a.symbols b.symbols; arcs = length a.arcs + f + length b.arcs }
    unfolding concatenation
    concatenation-roomy-counts e =
        roomy-counts n (concatenation a b) room ∙ ap (λ (c : Counts). record { letters = n; states = c.states; registers = c.registers; symbols = c.symbols; arcs = c.arcs }) (concatenation-counts e)

    pub concatenation-roomy-length : length (bytes_of (roomy n (concatenation a b))) ≡ 12 + n + states a + states b + length (arcs_bytes (concatenation a b).arcs)
    unfolding concatenation
    concatenation-roomy-length = omega (arith, roomy-length n (concatenation a b) room, ap (λ (c : Counts). c.states) (concatenation-counts refl))

    pub concatenation-length : length (bytes_of (roomy n (concatenation a b))) ≡ 12 + n + states a + states b + length (arcs_bytes a.arcs) + 6 * length (final_states 0 a.finals) + length (arcs_bytes b.arcs)
    concatenation-length = omega (arith, concatenation-roomy-length, concatenation-arcs-length)
