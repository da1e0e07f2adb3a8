-- ArcLengths: how many bytes the arcs that joins write take: those of a file, moved or not, and the added ones.
use mathlib.Core.Path.{◌∙◌, ◌≡◌, refl, sym}
use mathlib.Core.List.{List, [], ◌∷◌, map}
use Prim.Native.Nat.{◌+◌, suc, zero, ℕ, ◌*◌}
use native.Mathlib.Nat.{suc-mul, zero-mul}
use native.Mathlib.Omega.{arith}
use lib.ListN.{drop, get_or, length, length-append, length-drop, length-map}
use Rattle.automata.specs.Automaton.{Arc}
use Rattle.automata.specs.Joins.{moved_arc, moved_op, clearing, empty_move}
use Rattle.file_fields.specs.declared.Counts.{Counts}
use Rattle.std.specs.Prelude.{Ok}
use Rattle.format.specs.Encoding.{arc_bytes, arcs_bytes}
use Rattle.format.specs.Decoding.{arc_of, arcs_of, automaton_of}
use Rattle.file_fields.specs.Parts.{arc_size, first_arc}
use Rattle.format.specs.Reading.{reading_of}
use Rattle.format.specs.Placed.{whole}
use Rattle.file_laws.proofs.Laws.{arcs-seen, file-seen, ops-count, valid-arcs, valid-ranges}
use Rattle.file_arc_writing.proofs.Laws.{arc-length}
use Rattle.join_parts.proofs.FinalFlags.{returning}

-- an arc that is read from a place takes as many bytes as it took there
pub read_length : (l : List ℕ) → length (arc_bytes (arc_of l)) ≡ arc_size l
unfolding arc_of
read_length l = omega (arith, arc-length (arc_of l), ops-count (get_or l 3 0) (drop 4 l))

-- an arc with other states and registers
pub moved_length : (s k : ℕ) (x : Arc) → length (arc_bytes (moved_arc s k x)) ≡ length (arc_bytes x)
moved_length s k x = omega (arith, arc-length (moved_arc s k x), arc-length x, length-map x.ops (moved_op k))

-- all arcs, moved
pub arcs-moved-length : (s k : ℕ) (l : List Arc) → length (arcs_bytes (map (moved_arc s k) l)) ≡ length (arcs_bytes l)
unfolding arcs_bytes
arcs-moved-length s k [] = refl
arcs-moved-length s k (x ∷ l) =
    length-append (arc_bytes (moved_arc s k x)) (arcs_bytes (map (moved_arc s k) l)) ∙ omega (arith, moved_length s k x, arcs-moved-length s k l, length-append (arc_bytes x) (arcs_bytes l))

-- ---- added arcs: the empty move from state 0, and the returns from final states
pub entry_length : (t : ℕ) → length (arc_bytes (empty_move 0 t)) ≡ 6
unfolding arc_bytes
entry_length t = refl

pub returning-length : (s t n : ℕ) (l : List ℕ) → length (arcs_bytes (map (returning s t n) l)) ≡ length l * (4 + 2 * length (clearing n))
unfolding arcs_bytes
returning-length s t n [] = sym (zero-mul (4 + 2 * length (clearing n)))
returning-length s t n (i ∷ l) =
    length-append (arc_bytes (returning s t n i)) (arcs_bytes (map (returning s t n) l))
    ∙ rw (arc-length (returning s t n i), returning-length s t n l) (omega (arith, suc-mul (length l) (4 + 2 * length (clearing n))))

-- m arcs from a place on
whole_length : (m : ℕ) (l : List ℕ) → length (arcs_bytes (arcs_of m l)) ≡ whole m l
unfolding arcs_of whole arcs_bytes
whole_length zero l = refl
whole_length (suc m) l =
    length-append (arc_bytes (arc_of l)) (arcs_bytes (arcs_of m (drop (arc_size l) l)))
    ∙ omega (arith, read_length l, whole_length m (drop (arc_size l) l))

-- all that follows the flags of a valid file
pub arcs-length : (s : List ℕ) (c : Counts) → reading_of s ≡ Ok c → first_arc c + length (arcs_bytes (automaton_of s).arcs) ≡ length s
arcs-length s c e =
    let f = file-seen s c e in
    let a = arcs-seen c c.arcs (first_arc c) (drop (first_arc c) s) (valid-ranges s c e).symbols f.arcs in
    rw (valid-arcs s c e) (omega (arith, a.all, f.there, length-drop (first_arc c) s, whole_length c.arcs (drop (first_arc c) s)))
