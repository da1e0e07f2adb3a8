-- CanonicalLaws: a valid file is the bytes of its automaton, so no two valid files hold the same one.
use mathlib.Core.Path.{◌≡◌, refl, sym, ap, ◌∙◌, subst}
use mathlib.Core.Bool.{Bool, true, false}
use mathlib.Core.List.{List, [], ◌∷◌, ◌++◌, map}
use Prim.Native.Nat.{ℕ, zero, suc, ◌+◌, ◌*◌, ◌/◌, ◌%◌, ◌≤◌}
use native.Mathlib.Omega.{arith}
use borrow.Author.Tests.{leb-true, eqb-true, eqb-false}
use lib.Dec.{leb, eqb}
use lib.ListN.{length, get_or, drop, take, take-append-drop}
use lib.Seq.{drop-drop, drop-cons}
use Rattle.file_fields.specs.declared.Counts.{Counts}
use Rattle.std.specs.Prelude.{Ok}
use Rattle.file_fields.specs.Parts.{two, counts_of, letter_bytes, flag_bytes, first_arc, flags, well_op, well_ops, arc_size, arc_tests, arcs_tests}
use Rattle.format.specs.Reading.{reading_of}
use Rattle.format.specs.Decoding.{op_of, ops_of, letter_of, arc_of, arcs_of, is_final, decoded, automaton_of}
use Rattle.format.specs.Encoding.{header_bytes, flag_byte, op_bytes, ops_bytes, letter_byte, arc_bytes, arcs_bytes, bytes_of}
use Rattle.format.specs.Limits.{Bytes}
use Rattle.automata.proofs.Laws.{each-split}
use Rattle.file_fields.proofs.Laws.{Hold, Holds, all_hold_lem, and_both}
use Rattle.file_arcs.proofs.Laws.{ArcSeen, arc-seen}
use Rattle.format.proofs.Laws.{HeaderSeen}
use Rattle.file_laws.proofs.ArcLaws.{Op-kind, ops-count}
use Rattle.file_laws.proofs.ValidLaws.{FileSeen, file-seen, decoded-sizes}

-- ---- an operation
op_same : (c : Counts) (letter x y : ℕ) → well_op c letter x y ≡ true → op_bytes (op_of x y) ≡ x ∷ y ∷ []
unfolding op_of
op_same c letter x y e = go (eqb (x / 16) 0) refl
  where
    go : (t : Bool) → eqb (x / 16) 0 ≡ t → op_bytes (op_of x y) ≡ x ∷ y ∷ []
    go true f = let k = eqb-true (x / 16) 0 f in let g : 0 * 16 + x % 16 ≡ x = omega arith in rw f (ap (λ (n : ℕ). n ∷ y ∷ []) g)
    go false f =
        let n = eqb-false (x / 16) 0 f in
        let k = Op-kind c letter x y e in
        let g : 1 * 16 + x % 16 ≡ x = omega arith in
        rw f (ap (λ (n : ℕ). n ∷ y ∷ []) g)

ops-same : (c : Counts) (letter p : ℕ) (l : List ℕ) → 2 * p ≤ length l → well_ops c letter p l ≡ true → ops_bytes (ops_of p l) ≡ take (2 * p) l
unfolding well_ops ops_of ops_bytes
ops-same c letter zero l h e = refl
ops-same c letter (suc p) [] h e = absurd (omega arith)
ops-same c letter (suc p) (x ∷ []) h e = absurd (omega arith)
ops-same c letter (suc p) (x ∷ y ∷ l) h e =
    let d : 2 * suc p ≡ suc (suc (2 * p)) = omega arith in
    let b = and_both (well_op c letter x y) (well_ops c letter p l) e in
    ap (λ t. t ++ ops_bytes (ops_of p l)) (op_same c letter x y b.0) ∙ rw (d, ops-same c letter p l (omega arith) b.1)

-- ---- an arc
pub letter-same : (x : ℕ) → letter_byte (letter_of x) ≡ x
unfolding letter_of
letter-same x = go (eqb x 255) refl
  where
    go : (t : Bool) → eqb x 255 ≡ t → letter_byte (letter_of x) ≡ x
    go true f = rw f (sym (eqb-true x 255 f))
    go false f = rw f

arc-same : (c : Counts) (l : List ℕ) → ArcSeen c l → arc_bytes (arc_of l) ++ drop (arc_size l) l ≡ l
unfolding arc_bytes arc_of
arc-same c [] a = absurd (omega (arith, a.whole))
arc-same c (s ∷ []) a = absurd (omega (arith, a.whole))
arc-same c (s ∷ k ∷ []) a = absurd (omega (arith, a.whole))
arc-same c (s ∷ k ∷ t ∷ []) a = absurd (omega (arith, a.whole))
arc-same c (s ∷ k ∷ t ∷ p ∷ l) a =
    let d : drop (4 + 2 * p) (s ∷ k ∷ t ∷ p ∷ l) ≡ drop (2 * p) l = sym (drop-drop (2 * p) 4 (s ∷ k ∷ t ∷ p ∷ l)) in
    rw (letter-same k, ops-count p l, ops-same c k p l (omega (arith, a.whole)) a.ops, d, take-append-drop (2 * p) l)

arcs-same : (c : Counts) (m at : ℕ) (l : List ℕ) → Hold (arcs_tests m c at l) → arcs_bytes (arcs_of m l) ≡ l
unfolding arcs_tests arcs_of arcs_bytes
arcs-same c zero at l h = nothing l (leb-true _ _ h.0)
  where
    nothing : (l : List ℕ) → length l ≤ 0 → [] ≡ l
    nothing [] h = refl
    nothing (x ∷ l) h = absurd (omega arith)
arcs-same c (suc m) at l h =
    let rest = drop (arc_size l) l in
    let q = each-split Holds (arc_tests c at l) (arcs_tests m c (at + arc_size l) rest) h in
    ap (λ t. arc_bytes (arc_of l) ++ t) (arcs-same c m (at + arc_size l) rest q.1) ∙ arc-same c l (arc-seen c at l q.0)

-- ---- the final flags
pub flags-same : (l : List ℕ) → flags l ≡ true → map flag_byte (map is_final l) ≡ l
unfolding flags
flags-same [] e = refl
flags-same (x ∷ l) e = let b = and_both (leb x 1) (flags l) e in one x (leb-true x 1 b.0) (flags-same l b.1)
  where
    one : (x : ℕ) {r l : List ℕ} → x ≤ 1 → r ≡ l → flag_byte (is_final x) ∷ r ≡ x ∷ l
    one zero h e = ap (λ t. 0 ∷ t) e
    one (suc zero) h e = ap (λ t. 1 ∷ t) e
    one (suc (suc x)) h e = absurd (omega arith)

-- ---- the header
-- n elements from place i on, one by one
abbrev elements : ℕ → ℕ → List ℕ → List ℕ
elements i zero s = []
elements i (suc n) s = get_or s i 0 ∷ elements (suc i) n s

elements-front : (i n : ℕ) (s : List ℕ) → i + n ≤ length s → elements i n s ++ drop (i + n) s ≡ drop i s
elements-front i zero s h = let e : i + 0 ≡ i = omega arith in rw e
elements-front i (suc n) s h = let e : i + suc n ≡ suc i + n = omega arith in rw (drop-cons s i 0 (omega arith), e) (ap (λ t. get_or s i 0 ∷ t) (elements-front (suc i) n s (omega arith)))

header-same : (s : List ℕ) → Bytes s → HeaderSeen s → header_bytes (counts_of s) ++ drop 12 s ≡ s
unfolding header_bytes
header-same s b h =
    let m = all_hold_lem (eqb (get_or s 0 0) 0x4D) (eqb (get_or s 1 0) 0x4C ∷ eqb (get_or s 2 0) 0x42 ∷ []) h.mark in
    let m0 : get_or s 0 0 ≡ 0x4D = eqb-true _ _ m.0 in
    let m1 : get_or s 1 0 ≡ 0x4C = eqb-true _ _ m.1.0 in
    let m2 : get_or s 2 0 ≡ 0x42 = eqb-true _ _ m.1.1.0 in
    let v3 : get_or s 3 0 ≡ 1 = omega (arith, h.version) in
    let v4 : get_or s 4 0 ≡ 0 = omega (arith, h.version) in
    let s6 : two s 6 % 256 ≡ get_or s 6 0 = omega (arith, b 6) in
    let s7 : two s 6 / 256 ≡ get_or s 7 0 = omega (arith, b 6) in
    let m10 : two s 10 % 256 ≡ get_or s 10 0 = omega (arith, b 10) in
    let m11 : two s 10 / 256 ≡ get_or s 11 0 = omega (arith, b 10) in
    sym (sym (elements-front 0 12 s h.twelve) ∙ rw (m0, m1, m2, v3, v4, s6, s7, m10, m11))

-- ---- the file
module _ (s : List ℕ) (b : Bytes s) where
  abbrev c : Counts
  c = counts_of s

  decoded-same : FileSeen c s → bytes_of (decoded c s) ≡ s
  unfolding bytes_of decoded
  decoded-same h =
      let rest = drop (12 + c.letters) s in
      let arcs = arcs_bytes (decoded c s).arcs in
      let d : drop (first_arc c) s ≡ drop c.states rest = sym (drop-drop c.states (12 + c.letters) s) in
      let tail : map flag_byte (decoded c s).finals ++ arcs ≡ rest
      = ap (λ t. t ++ arcs) (flags-same (flag_bytes c s) h.flags) ∙ ap (λ t. flag_bytes c s ++ t) (arcs-same c c.arcs (first_arc c) (drop (first_arc c) s) h.arcs ∙ d) ∙ take-append-drop c.states rest in
      let all : letter_bytes c s ++ (map flag_byte (decoded c s).finals ++ arcs) ≡ drop 12 s
      = ap (λ t. letter_bytes c s ++ t) (tail ∙ sym (drop-drop c.letters 12 s)) ∙ take-append-drop c.letters (drop 12 s) in
      ap (λ (d : Counts). header_bytes d ++ (letter_bytes c s ++ (map flag_byte (decoded c s).finals ++ arcs))) (decoded-sizes s c h.there)
      ∙ ap (λ t. header_bytes c ++ t) all ∙ header-same s b h.header

  pub valid-bytes : (d : Counts) → reading_of s ≡ Ok d → bytes_of (automaton_of s) ≡ s
  unfolding automaton_of
  valid-bytes d e = let h = file-seen s d e in decoded-same (subst (λ (d : Counts). FileSeen d s) (sym h.counts) h)
