-- FileParts: the parts of a file as writers meet them: header, letters, flags, arcs; and the output once a whole file is written.
use mathlib.Core.Path.{◌∙◌, ◌≡◌, refl, sym}
use mathlib.Core.List.{List, [], ◌++◌, ◌∷◌, append_assoc, map}
use Prim.Native.Nat.{◌+◌, ℕ}
use native.Mathlib.Omega.{arith}
use lib.ListN.{drop, length, length-append}
use Rattle.automata.specs.Automaton.{Arc, Automaton}
use Rattle.file_fields.specs.declared.Counts.{Counts}
use Rattle.format.specs.Encoding.{arc_bytes, arcs_bytes, bytes_of, flag_byte, header_bytes, sizes}
use Rattle.file_writing.specs.Placing.{Appended}
use Rattle.file_writing.proofs.Placed.{Appended-length}

pub header-length : (c : Counts) → length (header_bytes c) ≡ 12
unfolding header_bytes
header-length c = refl

-- header and letters stand before the flags
pub front_ends : (c : Counts) (letters : List ℕ) {old out : List ℕ} {next : ℕ} → Appended 0 (header_bytes c ++ letters) old out next → (next ≡ 12 + length letters) × (length out ≡ length old)
front_ends c letters w = (omega (arith, w.behind, length-append (header_bytes c) letters, header-length c), Appended-length w)

pub arcs-append : (l r : List Arc) → arcs_bytes (l ++ r) ≡ arcs_bytes l ++ arcs_bytes r
unfolding arcs_bytes
arcs-append [] r = refl
arcs-append (x ∷ l) r = rw (arcs-append l r) (sym (append_assoc (arc_bytes x) (arcs_bytes l) (arcs_bytes r)))

-- header and letters, then flags and arcs
pub bytes-from : (x : Automaton) → bytes_of x ≡ (header_bytes (sizes x) ++ x.alphabet) ++ (map flag_byte x.finals ++ arcs_bytes x.arcs)
unfolding bytes_of
bytes-from x = sym (append_assoc (header_bytes (sizes x)) x.alphabet (map flag_byte x.finals ++ arcs_bytes x.arcs))

-- the output after a file was written at its front
pub file-written : {file old out : List ℕ} {next : ℕ} → Appended 0 file old out next → out ≡ file ++ drop (length file) old
file-written {file} w = let e : 0 + length file ≡ length file = omega arith in w.output ∙ rw e
