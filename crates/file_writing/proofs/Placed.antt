-- Placed: laws of writes at a place: two in a row are one, and what is left of a write after a part of it.
use mathlib.Core.Path.{◌≡◌, refl, sym, ap, ap₂, ◌∙◌, subst}
use mathlib.Core.List.{List, [], ◌∷◌, ◌++◌, append_assoc, append-nil}
use Prim.Native.Nat.{ℕ, ◌+◌, ◌-◌, ◌≤◌}
use native.Mathlib.Omega.{arith}
use native.Mathlib.Nat.{add-zero}
use lib.ListN.{length, take, drop, set, length-append, length-drop, take-append-drop, drop_of_length-le}
use lib.Seq.{take_all, drop-drop, take_at, drop_at, length-take-le, sets, sets-eq}
use Rattle.file_writing.specs.Placing.{placed, Appended}

-- ---- two writes
module _ (at : ℕ) (bytes old : List ℕ) (room : at ≤ length old) where
  abbrev front : List ℕ
  front = take at old ++ bytes

  abbrev rest : List ℕ
  rest = drop (at + length bytes) old

  front_length : length front ≡ at + length bytes
  front_length = length-append (take at old) bytes ∙ ap (λ (n : ℕ). n + length bytes) (length-take-le at old room)

  parts : placed at bytes old ≡ front ++ rest
  parts = sym (append_assoc (take at old) bytes rest)

  -- what stands before the place behind the bytes, and from it on
  take-placed : take (at + length bytes) (placed at bytes old) ≡ front
  take-placed = ap (take (at + length bytes)) parts ∙ take_at front rest (at + length bytes) front_length

  drop-placed : drop (at + length bytes) (placed at bytes old) ≡ rest
  drop-placed = ap (drop (at + length bytes)) parts ∙ drop_at front rest (at + length bytes) front_length

  -- a second write behind the first is one write of both
  placed-then : (more : List ℕ) → placed (at + length bytes) more (placed at bytes old) ≡ placed at (bytes ++ more) old
  placed-then more =
      let n = at + length bytes in
      let e : n + length more ≡ at + length (bytes ++ more) = omega (arith, length-append bytes more) in
      let beyond : drop (n + length more) (placed at bytes old) ≡ drop (at + length (bytes ++ more)) old
      = sym (drop-drop (length more) n (placed at bytes old)) ∙ ap (drop (length more)) drop-placed ∙ drop-drop (length more) n old ∙ ap (λ (k : ℕ). drop k old) e in
      ap₂ (λ (p q : List ℕ). p ++ (more ++ q)) take-placed beyond
      ∙ append_assoc (take at old) bytes (more ++ drop (at + length (bytes ++ more)) old)
      ∙ ap (λ (l : List ℕ). take at old ++ l) (sym (append_assoc bytes more (drop (at + length (bytes ++ more)) old)))

  placed-length : at + length bytes ≤ length old → length (placed at bytes old) ≡ length old
  placed-length h = ap length parts ∙ length-append front rest ∙ omega (arith, front_length, length-drop (at + length bytes) old)

-- nothing written
placed-nothing : (at : ℕ) (old : List ℕ) → placed at [] old ≡ old
placed-nothing at old = rw add-zero (take-append-drop at old)

-- the output keeps its length
pub Appended-length : {at next : ℕ} {bytes old out : List ℕ} → Appended at bytes old out next → length out ≡ length old
Appended-length {at} {bytes = bytes} {old = old} a = ap length a.output ∙ placed-length at bytes old (omega (arith, a.room)) a.room

-- where it ends, and that the output keeps its length
pub Appended-ends : {at next : ℕ} {bytes old out : List ℕ} → Appended at bytes old out next → (next ≡ at + length bytes) × (length out ≡ length old)
Appended-ends a = (a.behind, Appended-length a)

-- two writes in a row are one
pub written_then : {at next behind : ℕ} {bytes more old out end : List ℕ} → Appended at bytes old out next → Appended next more out end behind → Appended at (bytes ++ more) old end behind
written_then {at} {bytes = bytes} {more} {old} a b =
    let e = length-append bytes more in
    record {
      room = omega (arith, a.behind, b.room, Appended-length a);
      behind = omega (arith, a.behind, b.behind);
      output = b.output ∙ ap₂ (λ (n : ℕ) (l : List ℕ). placed n more l) a.behind a.output ∙ placed-then at bytes old (omega (arith, a.room)) more;
    }

-- bytes stored one behind the other
pub stored : (bytes old : List ℕ) (at : ℕ) → at + length bytes ≤ length old → Appended at bytes old (sets old at bytes) (at + length bytes)
stored bytes old at h = record { room = h; behind = refl; output = sets-eq bytes old at h ∙ append_assoc (take at old) bytes (drop (at + length bytes) old) }

-- ---- what is left of a write
-- Of writing `all` at `at` into `old`, writing `rest` at `to` into `out` is left.
pub record Left (at : ℕ) (all old : List ℕ) (to : ℕ) (rest out : List ℕ) : Type 0 where
  pub room : at + length all ≤ length old
  pub same : placed to rest out ≡ placed at all old
  pub ends : to + length rest ≡ at + length all
  pub size : length out ≡ length old

pub left-all : {at : ℕ} {all old : List ℕ} → at + length all ≤ length old → Left at all old at all old
left-all h = record { room = h; same = refl; ends = refl; size = refl }

module _ {at : ℕ} {all old : List ℕ} {to : ℕ} {out : List ℕ} where
  -- there is room for the first part of what is left
  pub left-fits : (bytes rest : List ℕ) → Left at all old to (bytes ++ rest) out → to + length bytes ≤ length out
  left-fits bytes rest l = omega (arith, l.ends, l.size, l.room, length-append bytes rest)

  -- the first part of it is written
  pub left_less : {bytes next : List ℕ} {behind : ℕ} (rest : List ℕ) → Left at all old to (bytes ++ rest) out → Appended to bytes out next behind → Left at all old behind rest next
  left_less {bytes} rest l a = record {
    room = l.room;
    same = ap₂ (λ (n : ℕ) (o : List ℕ). placed n rest o) a.behind a.output ∙ placed-then to bytes out (omega (arith, a.room)) rest ∙ l.same;
    ends = omega (arith, l.ends, length-append bytes rest, a.behind);
    size = Appended-length a ∙ l.size;
  }

  -- one byte of it is stored
  pub left-byte : (byte : ℕ) (rest : List ℕ) → Left at all old to (byte ∷ rest) out → Left at all old (to + 1) rest (set out to byte)
  left-byte byte rest l = left_less rest l (stored (byte ∷ []) out to (left-fits (byte ∷ []) rest l))

  -- all is written
  pub left-none : Left at all old to [] out → Appended at all old out to
  left-none l = record { room = l.room; behind = omega (arith, l.ends); output = sym (placed-nothing to out) ∙ l.same }

-- at the same place, said otherwise
pub left_at : {at to next : ℕ} {all old rest out : List ℕ} → next ≡ to → Left at all old to rest out → Left at all old next rest out
left_at {at} {all = all} {old} {rest} {out} e l = subst (λ (n : ℕ). Left at all old n rest out) (sym e) l

-- ---- a write into a part
-- After a write that ends at the place a, a callee is lent `&mut x[a..]` and writes at the front of it: in all, one write.
pub then_tail : {at next : ℕ} {before old x : List ℕ} (bytes y : List ℕ) (a : ℕ) → Appended at before old x next → at + length (before ++ bytes) ≤ length old → next ≡ a
    → y ≡ placed 0 bytes (take (length x - a) (drop a x)) → Appended at (before ++ bytes) old (take a x ++ (y ++ drop (length x - a) (drop a x))) (a + length bytes)
then_tail {at} {before = before} {x = x} bytes y a w room e f =
    let all : take (length x - a) (drop a x) ≡ drop a x = take_all (length x - a) (drop a x) (simp length-drop (omega arith)) in
    let none : drop (length x - a) (drop a x) ≡ [] = drop_of_length-le (drop a x) {i = length x - a} (simp length-drop (omega arith)) in
    let z : 0 + length bytes ≡ length bytes = omega arith in
    let fits : a + length bytes ≤ length x = omega (arith, Appended-length w, w.behind, length-append before bytes) in
    written_then (rw e at w) (record { room = fits; behind = refl; output = rw (none, append-nil, f, all, z, drop-drop) })
