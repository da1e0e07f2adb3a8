-- ArcLaws: arcs that are read without fault are within the limits, and stand whole as code that walks them asks.
use mathlib.Core.Path.{◌≡◌, refl, ap}
use mathlib.Core.Logic.{◌≢◌}
use mathlib.Core.Bool.{Bool, true, false, not, ◌&&◌, ◌||◌}
use mathlib.Core.List.{List, [], ◌∷◌}
use mathlib.Core.Option.{some}
use Prim.Native.Nat.{ℕ, zero, suc, ◌+◌, ◌/◌, ◌%◌, ◌≤◌, ◌<◌}
use native.Mathlib.Omega.{arith}
use borrow.Author.Tests.{leb-true, ltb-true, eqb-true, eqb-false, eq-eqb}
use lib.Dec.{leb, ltb, eqb}
use lib.ListN.{length, get_or, drop, length-drop}
use Rattle.automata.specs.Automaton.{reads, writes, KeepsZero}
use Rattle.file_fields.specs.declared.Counts.{Counts}
use Rattle.file_fields.specs.Parts.{well_op, well_ops, arc_size, arc_tests, arcs_tests}
use Rattle.format.specs.Decoding.{op_of, ops_of, letter_of, arc_of, arcs_of}
use Rattle.format.specs.Placed.{whole, OkOps, OkArcs}
use Rattle.automata.specs.Lists.{Each}
use Rattle.automata.proofs.Laws.{each-split}
use Rattle.file_fields.proofs.Laws.{Hold, Holds, all_hold_lem, and_both}
use Rattle.file_arcs.proofs.Laws.{ArcSeen, arc-seen}
use Rattle.file_laws.proofs.Fitting.{OpFits, ArcFits}

-- ---- an operation
read_keeps : (r y : ℕ) → (r ≡ 0 → y ≡ 0) → KeepsZero (reads r y)
unfolding KeepsZero
read_keeps zero y h = h refl
read_keeps (suc r) y h = tt

write_keeps : (r y : ℕ) → r ≢ 0 → KeepsZero (writes r y)
unfolding KeepsZero
write_keeps zero y h = h refl
write_keeps (suc r) y h = tt

module _ (c : Counts) (letter x y : ℕ) (e : well_op c letter x y ≡ true) where
  abbrev zero_test : Bool
  zero_test = not (eqb (x % 16) 0) || (eqb (x / 16) 0 && eqb y 0)

  Op-tests : (leb (x / 16) 1 ≡ true) × Each (λ t. t ≡ true) (ltb (x % 16) c.registers ∷ ltb y c.symbols ∷ zero_test ∷ [])
  Op-tests = all_hold_lem (leb (x / 16) 1) (ltb (x % 16) c.registers ∷ ltb y c.symbols ∷ zero_test ∷ []) e

  pub Op-kind : x / 16 ≤ 1
  Op-kind = leb-true _ _ Op-tests.0

  pub Op-inside : x % 16 < c.registers
  Op-inside = ltb-true _ _ Op-tests.1.0

  pub Op-small : y < c.symbols
  Op-small = ltb-true _ _ Op-tests.1.1.0

  Op-zero : x % 16 ≡ 0 → (eqb (x / 16) 0 ≡ true) × (eqb y 0 ≡ true)
  Op-zero z = and_both (eqb (x / 16) 0) (eqb y 0) (rw (eq-eqb (x % 16) 0 z) at Op-tests.1.1.1.0)

  op_fits : OpFits c (op_of x y)
  unfolding op_of
  op_fits = go (eqb (x / 16) 0) refl
    where
      go : (t : Bool) → eqb (x / 16) 0 ≡ t → OpFits c (op_of x y)
      go true f = rw f (record { inside = Op-inside; small = Op-small; zero_kept = read_keeps (x % 16) y (λ z. eqb-true y 0 (Op-zero z).1) })
      go false f = rw f (record { inside = Op-inside; small = Op-small; zero_kept = write_keeps (x % 16) y (λ z. eqb-false (x / 16) 0 f (eqb-true (x / 16) 0 (Op-zero z).0)) })

ops-fit : (c : Counts) (letter p : ℕ) (l : List ℕ) → c.symbols ≤ 16 → well_ops c letter p l ≡ true → Each (OpFits c) (ops_of p l) × OkOps c.registers p l
unfolding well_ops ops_of OkOps
ops-fit c letter zero l g e = (tt, tt)
ops-fit c letter (suc p) l g e =
    let x = get_or l 0 0 in
    let y = get_or l 1 0 in
    let b = and_both (well_op c letter x y) (well_ops c letter p (drop 2 l)) e in
    let rest = ops-fit c letter p (drop 2 l) g b.1 in
    ((op_fits c letter x y b.0, rest.0), (Op-inside c letter x y b.0, omega (arith, Op-small c letter x y b.0), rest.1))

pub ops-count : (p : ℕ) (l : List ℕ) → length (ops_of p l) ≡ p
unfolding ops_of
ops-count zero l = refl
ops-count (suc p) l = ap suc (ops-count p (drop 2 l))

-- ---- an arc
letter-fits : (c : Counts) (x : ℕ) → (eqb x 255 || ltb x c.letters) ≡ true → (l : ℕ) → letter_of x ≡ some l → l < c.letters
unfolding letter_of
letter-fits c x e l f = go (eqb x 255) refl e f
  where
    go : (t : Bool) → eqb x 255 ≡ t → (t || ltb x c.letters) ≡ true → letter_of x ≡ some l → l < c.letters
    go true g e f = let n = rw g at f in let z : ◌≡◌ {A = ℕ} 0 1 = cc in absurd (omega arith)
    go false g e f = let n = rw g at f in let z : x ≡ l = cc in omega (arith, ltb-true x c.letters e)

pub arc-fits : (c : Counts) (l : List ℕ) → c.symbols ≤ 16 → ArcSeen c l → ArcFits c (arc_of l)
unfolding arc_of
arc-fits c l g a =
    let p = get_or l 3 0 in
    let h = a.fields in
    let few = and_both (leb 1 p) (leb p 8) h.1.1.1.0 in
    let count = ops-count p (drop 4 l) in
    record {
      source = ltb-true _ _ h.0;
      lettered = letter-fits c (get_or l 1 0) h.1.0;
      target = ltb-true _ _ h.1.1.0;
      some_op = rw count (leb-true _ _ few.0);
      few_ops = rw count (leb-true _ _ few.1);
      ops = (ops-fit c (get_or l 1 0) p (drop 4 l) g a.ops).0;
    }

-- ---- all arcs
pub record ArcsSeen (c : Counts) (m : ℕ) (l : List ℕ) : Type 0 where
  pub fit : Each (ArcFits c) (arcs_of m l)
  pub ok : OkArcs c.registers m l
  pub all : whole m l ≡ length l

pub arcs-seen : (c : Counts) (m at : ℕ) (l : List ℕ) → c.symbols ≤ 16 → Hold (arcs_tests m c at l) → ArcsSeen c m l
unfolding arcs_tests arcs_of OkArcs whole
arcs-seen c zero at l g h = let f : length l ≤ 0 = leb-true _ _ h.0 in record { fit = tt; ok = tt; all = omega arith }
arcs-seen c (suc m) at l g h =
    let rest = drop (arc_size l) l in
    let s = each-split Holds (arc_tests c at l) (arcs_tests m c (at + arc_size l) rest) h in
    let a = arc-seen c at l s.0 in
    let r = arcs-seen c m (at + arc_size l) rest g s.1 in
    let f = arc-fits c l g a in
    record {
      fit = (f, r.fit);
      ok = (few f, (ops-fit c (get_or l 1 0) (get_or l 3 0) (drop 4 l) g a.ops).1, r.ok);
      all = omega (arith, r.all, length-drop (arc_size l) l, a.whole);
    }
  where
    few : ArcFits c (arc_of l) → get_or l 3 0 < 9
    few f = omega (arith, f.few_ops, ops-count (get_or l 3 0) (drop 4 l))

pub arcs-count : (m : ℕ) (l : List ℕ) → length (arcs_of m l) ≡ m
unfolding arcs_of
arcs-count zero l = refl
arcs-count (suc m) l = ap suc (arcs-count m (drop (arc_size l) l))
