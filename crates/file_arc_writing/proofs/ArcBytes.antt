-- ArcBytes: the bytes of arcs and operations, as the writers' loops meet them, and their lengths.
use mathlib.Core.Path.{◌≡◌, refl, ap, ◌∙◌}
use mathlib.Core.Logic.{◌≢◌}
use mathlib.Core.Bool.{Bool, false, true}
use mathlib.Core.List.{List, [], ◌∷◌, ◌++◌, map}
use Prim.Native.Nat.{ℕ, zero, suc, ◌+◌, ◌-◌, ◌*◌, ◌/◌, ◌%◌, ◌<◌, ◌≤◌}
use native.Mathlib.Nat.{add-zero}
use native.Mathlib.Omega.{arith}
use borrow.Author.Tests.{eq-eqb, eqb-false, eqb-true, ne_eqb}
use lib.Dec.{eqb}
use lib.ListN.{length, get_or, drop, length-map}
use lib.Seq.{drop-drop, get_or-drop}
use Rattle.automata.specs.Automaton.{Op, reads, writes, Arc}
use Rattle.automata.specs.Lists.{count_from}
use Rattle.automata.specs.Unfolding.{read_zero}
use Rattle.automata.specs.Joins.{moved_register, moved_op, clearing}
use Rattle.format.specs.Decoding.{op_of, ops_of}
use Rattle.format.specs.Encoding.{op_bytes, ops_bytes, arc_bytes}
use Rattle.file_fields.proofs.Laws.{down, none_left}
use Rattle.file_laws.proofs.Laws.{letter-same, ops-count, ops-length}
use Rattle.file_arc_writing.specs.declared.Fields.{Fields}
use Rattle.file_writing.specs.Placing.{Appended}
use Rattle.file_arc_writing.specs.Arcs.{arc_with}

-- ---- moved operations
register-moved : (k r : ℕ) → r ≢ 0 → moved_register k r ≡ r + k
register-moved k zero h = absurd (h refl)
register-moved k (suc r) h = omega arith

read_moved : (k x y : ℕ) → x / 16 ≡ 0 → op_bytes (moved_op k (op_of x y)) ≡ moved_register k (x % 16) ∷ y ∷ []
unfolding op_of
read_moved k x y e = let z : 0 * 16 + moved_register k (x % 16) ≡ moved_register k (x % 16) = omega arith in rw (eq-eqb (x / 16) 0 e, z)

write_moved : (k x y : ℕ) → x / 16 ≢ 0 → op_bytes (moved_op k (op_of x y)) ≡ (16 + moved_register k (x % 16)) ∷ y ∷ []
unfolding op_of
write_moved k x y h = let z : 1 * 16 + moved_register k (x % 16) ≡ 16 + moved_register k (x % 16) = omega arith in rw (ne_eqb (x / 16) 0 h, z)

-- a read or a write: at register 0 it stays, at another its first byte is k more
module _ (k x y : ℕ) (h : x < 32) where
  pub zero-stays : x % 16 ≡ 0 → op_bytes (moved_op k (op_of x y)) ≡ x ∷ y ∷ []
  zero-stays e = go (eqb (x / 16) 0) refl
    where
      go : (b : Bool) → eqb (x / 16) 0 ≡ b → op_bytes (moved_op k (op_of x y)) ≡ x ∷ y ∷ []
      go true f = let d = eqb-true (x / 16) 0 f in read_moved k x y d ∙ ap (λ (r : ℕ). r ∷ y ∷ []) (ap (moved_register k) e ∙ omega arith)
      go false f = let d = eqb-false (x / 16) 0 f in write_moved k x y d ∙ ap (λ (r : ℕ). r ∷ y ∷ []) (ap (λ (r : ℕ). 16 + moved_register k r) e ∙ omega arith)

  pub others-move : x % 16 ≢ 0 → op_bytes (moved_op k (op_of x y)) ≡ (x + k) ∷ y ∷ []
  others-move n = go (eqb (x / 16) 0) refl
    where
      go : (b : Bool) → eqb (x / 16) 0 ≡ b → op_bytes (moved_op k (op_of x y)) ≡ (x + k) ∷ y ∷ []
      go true f = let d = eqb-true (x / 16) 0 f in read_moved k x y d ∙ ap (λ (r : ℕ). r ∷ y ∷ []) (register-moved k (x % 16) n ∙ omega arith)
      go false f = let d = eqb-false (x / 16) 0 f in write_moved k x y d ∙ ap (λ (r : ℕ). r ∷ y ∷ []) (ap (λ (r : ℕ). 16 + r) (register-moved k (x % 16) n) ∙ omega arith)

-- moved by 0, an operation is as it was
pub Op-unmoved : (o : Op) → moved_op 0 o ≡ o
Op-unmoved (reads zero γ) = refl
Op-unmoved (reads (suc i) γ) = ap (λ (r : ℕ). reads (suc r) γ) (add-zero i)
Op-unmoved (writes zero γ) = refl
Op-unmoved (writes (suc i) γ) = ap (λ (r : ℕ). writes (suc r) γ) (add-zero i)

pub ops-unmoved : (os : List Op) → map (moved_op 0) os ≡ os
ops-unmoved [] = refl
ops-unmoved (o ∷ os) = rw (Op-unmoved o, ops-unmoved os)

-- ---- operations at a place, one step and the end
module _ (k p i : ℕ) (s : List ℕ) where
  abbrev place : ℕ
  place = 2 * i

  abbrev later : List ℕ
  later = ops_bytes (map (moved_op k) (ops_of (p - (i + 1)) (drop (2 * (i + 1)) s)))

  pub moved-ops-at : i < p → (x : ℕ) → ((y : ℕ) → op_bytes (moved_op k (op_of (get_or s place 0) y)) ≡ x ∷ y ∷ [])
      → ops_bytes (map (moved_op k) (ops_of (p - i) (drop place s))) ≡ x ∷ get_or s (place + 1) 0 ∷ later
  unfolding ops_of ops_bytes
  moved-ops-at h x e =
      let f : 2 * (i + 1) ≡ 2 * i + 2 = omega arith in
      let step : ops_bytes (map (moved_op k) (ops_of (p - i) (drop place s))) ≡ op_bytes (moved_op k (op_of (get_or s place 0) (get_or s (place + 1) 0))) ++ later
      = rw (down p i h, f, drop-drop 2 place s, get_or-drop place s 0 0, get_or-drop place s 1 0, add-zero) in
      step ∙ ap (λ (t : List ℕ). t ++ later) (e (get_or s (place + 1) 0))

  pub moved-ops-end : p ≤ i → ops_bytes (map (moved_op k) (ops_of (p - i) (drop place s))) ≡ []
  unfolding ops_of ops_bytes
  moved-ops-end h = rw (none_left p i h)

pub count-length : (i n : ℕ) → length (count_from i n) ≡ n
unfolding count_from
count-length i zero = refl
count-length i (suc n) = ap suc (count-length (suc i) n)

-- 0 into n registers from r on
abbrev pub cleared : ℕ → ℕ → List Op
cleared r n = map (λ (i : ℕ). writes i 0) (count_from r n)

pub cleared_at : (p i : ℕ) → i < p → ops_bytes (cleared (1 + i) (p - i)) ≡ (17 + i) ∷ 0 ∷ ops_bytes (cleared (1 + (i + 1)) (p - (i + 1)))
unfolding count_from ops_bytes
cleared_at p i h =
    let e : 1 * 16 + (1 + i) ≡ 17 + i = omega arith in
    let f : 1 + (i + 1) ≡ suc (1 + i) = omega arith in
    rw (down p i h, e, f)

pub cleared-end : (p i : ℕ) → p ≤ i → ops_bytes (cleared (1 + i) (p - i)) ≡ []
unfolding count_from ops_bytes
cleared-end p i h = rw (none_left p i h)

pub cleared-count : (r n : ℕ) → length (cleared r n) ≡ n
cleared-count r n = length-map (count_from r n) (λ i. writes i 0) ∙ count-length r n

pub cleared-length : (p : ℕ) → length (ops_bytes (cleared 1 p)) ≡ 2 * p
cleared-length p = ops-length (cleared 1 p) ∙ ap (λ (n : ℕ). 2 * n) (cleared-count 1 p)

-- what clearing n registers is, by the number of registers
pub clearing-few : (n : ℕ) → n < 2 → clearing n ≡ read_zero
unfolding clearing
clearing-few zero h = refl
clearing-few (suc zero) h = refl
clearing-few (suc (suc n)) h = absurd (omega arith)

pub clearing-more : (n : ℕ) → 2 ≤ n → clearing n ≡ cleared 1 (n - 1)
unfolding clearing
clearing-more zero h = absurd (omega arith)
clearing-more (suc zero) h = absurd (omega arith)
clearing-more (suc (suc n)) h = let e : suc n ≡ suc (suc n) - 1 = omega arith in ap (cleared 1) e

pub moved-ops-count : (k p : ℕ) (s : List ℕ) → length (map (moved_op k) (ops_of p s)) ≡ p
moved-ops-count k p s = length-map (ops_of p s) (moved_op k) ∙ ops-count p s

pub moved-ops-length : (k p : ℕ) (s : List ℕ) → length (ops_bytes (map (moved_op k) (ops_of p s))) ≡ 2 * p
moved-ops-length k p s = ops-length (map (moved_op k) (ops_of p s)) ∙ ap (λ (n : ℕ). 2 * n) (moved-ops-count k p s)

pub ops_append : (l r : List Op) → ops_bytes (l ++ r) ≡ ops_bytes l ++ ops_bytes r
unfolding ops_bytes
ops_append [] r = refl
ops_append (o ∷ l) r = ap (λ (t : List ℕ). op_bytes o ++ t) (ops_append l r)

-- ---- an arc
-- its four bytes, then its operations
pub arc-parts : (f : Fields) (os : List Op) → arc_bytes (arc_with f os) ≡ (f.source ∷ f.letter ∷ f.target ∷ length os ∷ []) ++ ops_bytes os
unfolding arc_bytes
arc-parts f os = rw (letter-same f.letter)

-- written as such
pub arc-written : (f : Fields) (os : List Op) {p at behind : ℕ} {bytes old out : List ℕ} → length os ≡ p → ops_bytes os ≡ bytes
    → Appended at ((f.source ∷ f.letter ∷ f.target ∷ p ∷ []) ++ bytes) old out behind → Appended at (arc_bytes (arc_with f os)) old out behind
arc-written f os e b a = rw (arc-parts f os, e, b) a

pub arc-length : (x : Arc) → length (arc_bytes x) ≡ 4 + 2 * length x.ops
unfolding arc_bytes
arc-length x = omega (arith, ops-length x.ops)
