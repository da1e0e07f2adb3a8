-- FrontLaws: a test sees no further than the part that it looks at, so a valid file that is cut short is refused with 1, and one
-- with bytes after it with 9, at the place where these begin.
use mathlib.Core.Path.{◌≡◌, refl, sym, ap, ◌∙◌, subst}
use mathlib.Core.Bool.{Bool, true, false, ◌&&◌}
use mathlib.Core.List.{List, [], ◌∷◌, ◌++◌}
use Prim.Native.Nat.{ℕ, zero, suc, ◌+◌, ◌*◌, ◌≤◌, ◌<◌}
use native.Mathlib.Omega.{arith}
use borrow.Author.Tests.{leb-true, le-leb, lt-leb}
use lib.Dec.{leb}
use lib.ListN.{length, get_or, drop, length-drop, length-append, get_or-append}
use lib.Seq.{take-append-le, drop-append-le}
use Rattle.automata.specs.Letters.{unlike}
use Rattle.file_fields.specs.declared.Counts.{Counts}
use Rattle.file_fields.specs.declared.Reason.TheVariants.{BytesAfterTheLastArc, EndsInsideAField}
use Rattle.std.specs.Prelude.{Ok}
use Rattle.file_fields.specs.Parts.{two, marked, counts_of, part, letter_bytes, ascending, first_arc, flags, field_tests, well_op, well_ops, arc_size, arc_tests, arcs_tests, header_tests, first_fault, fault}
use Rattle.format.specs.Reading.{reading_of}
use Rattle.format.specs.Limits.{Ranges}
use Rattle.automata.proofs.Laws.{each-split}
use Rattle.file_fields.proofs.Laws.{Hold, Holds, Goes-on_with, Hold-valid}
use Rattle.file_arcs.proofs.Laws.{ArcSeen, arc-seen}
use Rattle.format.proofs.Laws.{HeaderSeen, body_tests, seen-header}
use Rattle.file_laws.proofs.ValidLaws.{FileSeen, file-seen}

module _ (t : List ℕ) (more : 0 < length t) where
  -- ---- what stands in front of t is the same
  part-front : (at size : ℕ) (s : List ℕ) → at + size ≤ length s → part at size (s ++ t) ≡ part at size s
  part-front at size s h = rw (drop-append-le at s t (omega arith)) (take-append-le size (drop at s) t (simp length-drop (omega arith)))

  module _ (c : Counts) (l : List ℕ) (h : 4 ≤ length l) where
    byte-front : (i : ℕ) → i < length l → get_or (l ++ t) i 0 ≡ get_or l i 0
    byte-front = get_or-append l t 0

    fields-longer : Hold (field_tests c 0 l) → Hold (field_tests c 0 (l ++ t))
    fields-longer f = rw (byte-front 0 (omega arith), byte-front 1 (omega arith), byte-front 2 (omega arith), byte-front 3 (omega arith)) f

    fields-shorter : Hold (field_tests c 0 (l ++ t)) → Hold (field_tests c 0 l)
    fields-shorter f = rw (byte-front 0 (omega arith), byte-front 1 (omega arith), byte-front 2 (omega arith), byte-front 3 (omega arith)) at f

  size-front : (l : List ℕ) → 4 ≤ length l → arc_size (l ++ t) ≡ arc_size l
  size-front l h = ap (λ p. 4 + 2 * p) (get_or-append l t 0 3 (omega arith))

  ops-front : (c : Counts) (letter p : ℕ) (l : List ℕ) → 2 * p ≤ length l → well_ops c letter p (l ++ t) ≡ well_ops c letter p l
  unfolding well_ops
  ops-front c letter zero l h = refl
  ops-front c letter (suc p) [] h = absurd (omega arith)
  ops-front c letter (suc p) (x ∷ []) h = absurd (omega arith)
  ops-front c letter (suc p) (x ∷ y ∷ l) h = ap (λ b. well_op c letter x y && b) (ops-front c letter p l (omega arith))

  rest-front : (l : List ℕ) → 4 ≤ length l → arc_size l ≤ length l → drop (arc_size (l ++ t)) (l ++ t) ≡ drop (arc_size l) l ++ t
  rest-front l h k = rw (size-front l h) (drop-append-le (arc_size l) l t k)

  arc-ops : (c : Counts) (l : List ℕ) → 4 ≤ length l → arc_size l ≤ length l
      → well_ops c (get_or (l ++ t) 1 0) (get_or (l ++ t) 3 0) (drop 4 (l ++ t)) ≡ well_ops c (get_or l 1 0) (get_or l 3 0) (drop 4 l)
  arc-ops c l h k =
      rw (get_or-append l t 0 1 (omega arith), get_or-append l t 0 3 (omega arith), drop-append-le 4 l t h)
      (ops-front c (get_or l 1 0) (get_or l 3 0) (drop 4 l) (simp length-drop (omega arith)))

  -- ---- arcs
  module _ (c : Counts) where
    arcs-after : (m at : ℕ) (l : List ℕ) → Hold (arcs_tests m c at l) → first_fault (arcs_tests m c at (l ++ t)) c ≡ fault BytesAfterTheLastArc (at + length l)
    unfolding arcs_tests first_fault
    arcs-after zero at l h =
        let none = leb-true (length l) 0 h.0 in
        let e : at ≡ at + length l = omega arith in
        rw (lt-leb (length (l ++ t)) 0 (omega (arith, length-append l t))) (ap (λ (n : ℕ). fault BytesAfterTheLastArc n) e)
    arcs-after (suc m) at l h =
        let q = each-split Holds (arc_tests c at l) (arcs_tests m c (at + arc_size l) (drop (arc_size l) l)) h in
        let a = arc-seen c at l q.0 in
        let four : 4 ≤ length l = omega (arith, a.whole) in
        let n = length-append l t in
        let size = size-front l four in
        let f = fields-longer c l four a.fields in
        let end : at + arc_size l + length (drop (arc_size l) l) ≡ at + length l = omega (arith, length-drop (arc_size l) l, a.whole) in
        rw (
          le-leb 4 (length (l ++ t)) (omega arith),
          f.0,
          f.1.0,
          f.1.1.0,
          f.1.1.1.0,
          le-leb (arc_size (l ++ t)) (length (l ++ t)) (omega (arith, a.whole)),
          arc-ops c l four a.whole ∙ a.ops,
          rest-front l four a.whole,
          size,
        ) (arcs-after m (at + arc_size l) (drop (arc_size l) l) q.1 ∙ ap (λ (n : ℕ). fault BytesAfterTheLastArc n) end)

    -- cut short: refused with 1, at some place
    abbrev CutArcs : ℕ → ℕ → List ℕ → Type 0
    CutArcs m at l = (place : ℕ) × (first_fault (arcs_tests m c at l) c ≡ fault EndsInsideAField place)

    arcs-cut : (m at : ℕ) (l : List ℕ) → Hold (arcs_tests m c at (l ++ t)) → CutArcs m at l
    unfolding arcs_tests first_fault
    arcs-cut zero at l h = absurd (omega (arith, leb-true (length (l ++ t)) 0 h.0, length-append l t))
    arcs-cut (suc m) at l h = first (arcs-cut m (at + arc_size l) (drop (arc_size l) l)) (leb 4 (length l)) refl
      where
        Further : Type 0
        Further = Hold (arcs_tests m c (at + arc_size l) (drop (arc_size l) l ++ t)) → CutArcs m (at + arc_size l) (drop (arc_size l) l)

        q : Hold (arc_tests c at (l ++ t)) × Hold (arcs_tests m c (at + arc_size (l ++ t)) (drop (arc_size (l ++ t)) (l ++ t)))
        q = each-split Holds (arc_tests c at (l ++ t)) (arcs_tests m c (at + arc_size (l ++ t)) (drop (arc_size (l ++ t)) (l ++ t))) h

        a : ArcSeen c (l ++ t)
        a = arc-seen c at (l ++ t) q.0

        second : Further → 4 ≤ length l → (b : Bool) → leb (arc_size l) (length l) ≡ b → CutArcs (suc m) at l
        second further four false e =
            let f = fields-shorter c l four a.fields in
            (at + 4, rw (le-leb 4 (length l) four, f.0, f.1.0, f.1.1.0, f.1.1.1.0, e))
        second further four true e =
            let k = leb-true _ _ e in
            let f = fields-shorter c l four a.fields in
            let rest = rw (rest-front l four k, size-front l four) at q.1 in
            let r = further rest in
            (r.0, rw (le-leb 4 (length l) four, f.0, f.1.0, f.1.1.0, f.1.1.1.0, e, sym (arc-ops c l four k) ∙ a.ops) r.1)

        first : Further → (b : Bool) → leb 4 (length l) ≡ b → CutArcs (suc m) at l
        first further false e = (at, rw e)
        first further true e = second further (leb-true _ _ e) (leb (arc_size l) (length l)) refl

  -- ---- the file
  module _ (s : List ℕ) where
    abbrev longer : List ℕ
    longer = s ++ t

    more_bytes : length longer ≡ length s + length t
    more_bytes = length-append s t

    front : (i : ℕ) → i < length s → get_or longer i 0 ≡ get_or s i 0
    front = get_or-append s t 0

    counts-front : 12 ≤ length s → counts_of longer ≡ counts_of s
    counts-front h = rw (front 5 (omega arith), front 6 (omega arith), front 7 (omega arith), front 8 (omega arith), front 9 (omega arith), front 10 (omega arith), front 11 (omega arith))

    mark-front : 12 ≤ length s → marked longer ≡ marked s
    mark-front h = rw (front 0 (omega arith), front 1 (omega arith), front 2 (omega arith))

    version-front : 12 ≤ length s → two longer 3 ≡ two s 3
    version-front h = rw (front 3 (omega arith), front 4 (omega arith))

    pub longer-refused : (c : Counts) → reading_of s ≡ Ok c → reading_of longer ≡ fault BytesAfterTheLastArc (length s)
    unfolding reading_of first_fault
    longer-refused c e =
        Goes-on_with (header_tests longer) (counts_of longer) (Hold-valid (header_tests longer) (counts_of longer) (seen-header longer header) ∙ ap Ok (counts-front f.header.twelve ∙ f.counts)) (λ (d : Counts). body_tests d longer)
        ∙ rw (
          le-leb (12 + c.letters) (length longer) (omega (arith, f.there, more_bytes)),
          ap ascending (part-front 12 c.letters s (omega (arith, f.there))) ∙ f.rising,
          ap unlike (part-front 12 c.letters s (omega (arith, f.there))) ∙ f.unlike,
          le-leb (first_arc c) (length longer) (omega (arith, f.there, more_bytes)),
          ap flags (part-front (12 + c.letters) c.states s f.there) ∙ f.flags,
          drop-append-le (first_arc c) s t f.there,
        ) (arcs-after c c.arcs (first_arc c) (drop (first_arc c) s) f.arcs ∙ ap (λ (n : ℕ). fault BytesAfterTheLastArc n) end)
      where
        f : FileSeen c s
        f = file-seen s c e

        end : first_arc c + length (drop (first_arc c) s) ≡ length s
        end = omega (arith, length-drop (first_arc c) s, f.there)

        header : HeaderSeen longer
        header =
            let h = f.header.twelve in
            record {
              twelve = omega (arith, h, more_bytes);
              mark = mark-front h ∙ f.header.mark;
              version = version-front h ∙ f.header.version;
              ranges = subst (λ (d : Counts). Ranges d) (sym (counts-front h)) f.header.ranges;
            }

    pub shorter-refused : (c : Counts) → reading_of longer ≡ Ok c → (place : ℕ) × (reading_of s ≡ fault EndsInsideAField place)
    unfolding reading_of first_fault
    shorter-refused c e = start (leb 12 (length s)) refl
      where
        f : FileSeen c longer
        f = file-seen longer c e

        header : 12 ≤ length s → HeaderSeen s
        header h = record {
          twelve = h;
          mark = sym (mark-front h) ∙ f.header.mark;
          version = sym (version-front h) ∙ f.header.version;
          ranges = subst (λ (d : Counts). Ranges d) (counts-front h) f.header.ranges;
        }

        Cut : Type 0
        Cut = (place : ℕ) × (first_fault (body_tests c s) c ≡ fault EndsInsideAField place)

        arcs : first_arc c ≤ length s → Hold (arcs_tests c.arcs c (first_arc c) (drop (first_arc c) s ++ t))
        arcs h = subst (λ l. Hold (arcs_tests c.arcs c (first_arc c) l)) (drop-append-le (first_arc c) s t h) f.arcs

        letters-rise : 12 + c.letters ≤ length s → ascending (letter_bytes c s) ≡ true
        letters-rise h = sym (ap ascending (part-front 12 c.letters s h)) ∙ f.rising

        letters-unlike : 12 + c.letters ≤ length s → unlike (letter_bytes c s) ≡ true
        letters-unlike h = sym (ap unlike (part-front 12 c.letters s h)) ∙ f.unlike

        to-arcs : 12 + c.letters ≤ length s → (b : Bool) → leb (first_arc c) (length s) ≡ b → Cut
        to-arcs h false g = (12 + c.letters, rw (le-leb (12 + c.letters) (length s) h, letters-rise h, letters-unlike h, g))
        to-arcs h true g =
            let k = leb-true _ _ g in
            let r = arcs-cut c c.arcs (first_arc c) (drop (first_arc c) s) (arcs k) in (
              r.0,
              rw (le-leb (12 + c.letters) (length s) h, letters-rise h, letters-unlike h, g, sym (ap flags (part-front (12 + c.letters) c.states s k)) ∙ f.flags)
                  r.1,
            )

        to-flags : (b : Bool) → leb (12 + c.letters) (length s) ≡ b → Cut
        to-flags false g = (12, rw g)
        to-flags true g = to-arcs (leb-true _ _ g) (leb (first_arc c) (length s)) refl

        start : (b : Bool) → leb 12 (length s) ≡ b → (place : ℕ) × (reading_of s ≡ fault EndsInsideAField place)
        start false g = (0, rw g)
        start true g =
            let h = leb-true _ _ g in
            let r = to-flags (leb (12 + c.letters) (length s)) refl in
            let valid = Hold-valid (header_tests s) (counts_of s) (seen-header s (header h)) ∙ ap Ok (sym (counts-front h) ∙ f.counts) in
            (r.0, Goes-on_with (header_tests s) (counts_of s) valid (λ (d : Counts). body_tests d s) ∙ r.1)
