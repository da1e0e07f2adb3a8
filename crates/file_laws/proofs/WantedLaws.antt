-- WantedLaws: the number and the place that reading answers are those of the first thing wanted that is not so (specs/Wanted.antt).
use mathlib.Core.Path.{◌≡◌, refl, subst}
use mathlib.Core.Logic.{◌↔◌, ◌⊎◌, inl, inr, ⊎_elim}
use mathlib.Core.Bool.{Bool, ◌&&◌, ◌||◌, cond, false, not, true}
use mathlib.Core.List.{List, Memᴰ, ◌++◌, [], ◌∷◌, map}
use Prim.Native.Nat.{◌%◌, ◌*◌, ◌+◌, ◌/◌, ◌<◌, ◌≤◌, suc, zero, ℕ}
use native.Mathlib.Omega.{arith}
use lib.Dec.{T, eqb, leb, leb→le, le→leb, ltb, ltb→lt, lt→ltb}
use lib.ListN.{drop, get_or, length}
use Rattle.automata.specs.Letters.{key, keys, same_key, unlike}
use Rattle.automata.specs.Lists.{any}
use Rattle.automata.proofs.Laws.{and-iff, eqb-iff, listed-iff, not_iff, or_iff}
use Rattle.file_fields.specs.declared.Counts.{Counts}
use Rattle.file_fields.specs.declared.Reason.{Reason}
use Rattle.file_fields.specs.declared.Reason.TheVariants.{FinalFlag, LettersNotAscending, Operation}
use Rattle.file_fields.specs.Parts.{arc_size, arcs_tests, ascending, ascending_front, counts_of, first_arc, first_fault, flag_bytes, flags, flags_at, flags_front, letter_bytes, marked, ops_front, unlike_front, well_op, well_ops, number_of}
use Rattle.format.specs.Reading.{file_tests, reading_of, told}
use Rattle.format.specs.Refusals.{FirstHolds}
use Rattle.file_laws.specs.Wanted.{IsOperation, Within, each_arc, each_flag, each_letter, each_operation, each_unlike, faults, wanted}

-- ---- a test, and what it tells
record Tells (test : Bool) (P : Type 0) : Type 0 where
  iff : T test ↔ P

most : (m n : ℕ) → Tells (leb m n) (m ≤ n)
most m n = record { iff = (leb→le m n, le→leb m n) }

less : (m n : ℕ) → Tells (ltb m n) (m < n)
less m n = record { iff = (ltb→lt m n, lt→ltb m n) }

equal : (m n : ℕ) → Tells (eqb m n) (m ≡ n)
equal m n = record { iff = eqb-iff m n }

both : {P Q : Type 0} {a b : Bool} → Tells a P → Tells b Q → Tells (a && b) (P × Q)
both {a = a} {b} f g = let e = and-iff a b in record { iff = (λ t. (f.iff.0 (e.0 t).0, g.iff.0 (e.0 t).1), λ p. e.1 (f.iff.1 p.0, g.iff.1 p.1)) }

either : {P Q : Type 0} {a b : Bool} → Tells a P → Tells b Q → Tells (a || b) (P ⊎ Q)
either {a = a} {b} f g = let e = or_iff a b in
    record { iff = (λ t. ⊎_elim (λ t. inl (f.iff.0 t)) (λ t. inr (g.iff.0 t)) (e.0 t), λ s. e.1 (⊎_elim (λ p. inl (f.iff.1 p)) (λ q. inr (g.iff.1 q)) s)) }

within : (low high n : ℕ) → Tells (leb low n && leb n high) (Within low high n)
within low high n = both (most low n) (most n high)

-- 'where P, Q', as a test
where_so : {P Q : Type 0} {a b : Bool} → Tells a P → Tells b Q → Tells (not a || b) (P → Q)
where_so {a = true} f g = record { iff = (λ t _. g.iff.0 t, λ h. g.iff.1 (h (f.iff.0 tt))) }
where_so {a = false} f g = record { iff = (λ _ p. absurd (f.iff.1 p), λ _. tt) }

operation : (c : Counts) (letter x y : ℕ) → Tells (well_op c letter x y) (IsOperation c x y)
operation c letter x y =
    let t = both (both (both (most (x / 16) 1) (less (x % 16) c.registers)) (less y c.symbols)) (where_so (equal (x % 16) 0) (both (equal (x / 16) 0) (equal y 0))) in
    record { iff = (λ w. let p = t.iff.0 w in record { kind = p.0.0.0; register = p.0.0.1; symbol = p.0.1; zero_kept = p.1 }, λ o. t.iff.1 (((o.kind, o.register), o.symbol), o.zero_kept)) }

mark : (s : List ℕ) → Tells (marked s) ((get_or s 0 0 ≡ 0x4D) × (get_or s 1 0 ≡ 0x4C) × (get_or s 2 0 ≡ 0x42))
mark s = let t = both (both (equal (get_or s 0 0) 0x4D) (equal (get_or s 1 0) 0x4C)) (equal (get_or s 2 0) 0x42) in
    record { iff = (λ w. let p = t.iff.0 w in (p.0.0, p.0.1, p.1), λ p. t.iff.1 ((p.0, p.1), p.2)) }

-- no byte behind x stands for the same letter
other_letters : (x : ℕ) (l : List ℕ) → Tells (not (any (same_key x) l)) (¬ Memᴰ (key x) (keys l))
other_letters x l =
    let n = not_iff (any (same_key x) l) in
    let i = listed-iff x l in
    record { iff = (λ t m. n.0 t (i.1 m), λ h. n.1 (λ t. h (i.0 t))) }

-- ---- one test after the other
-- the first thing wanted that is not so has the number and the place that the tests' answer tells
pub record Finds (wants : List (Type 0 × ℕ × ℕ)) (tests : List (Bool × Reason × ℕ)) (c : Counts) : Type 0 where
  pub found : let r = told (first_fault tests c) in FirstHolds (map (λ (w : Type 0 × ℕ × ℕ). (¬ w.0, w.1, w.2)) wants) r.number r.place

step : {P : Type 0} {ws : List (Type 0 × ℕ × ℕ)} {ts : List (Bool × Reason × ℕ)} {c : Counts} {r : Reason} {place : ℕ} {b : Bool} → Tells b P
    → (P → Finds ws ts c) → Finds ((P, number_of r, place) ∷ ws) ((b, r, place) ∷ ts) c
unfolding first_fault
step {b = true} f rest = record { found = inr (λ q. q (f.iff.0 tt), (rest (f.iff.0 tt)).found) }
step {b = false} f rest = record { found = inl (f.iff.1, refl, refl) }

-- many things of one kind: one test tells whether all are so, and its place is that of the first that is not. Here the first of them
many : {P : Type 0} {ws : List (Type 0 × ℕ × ℕ)} {ts : List (Bool × Reason × ℕ)} {c : Counts} {r : Reason} {b : Bool} (all : Bool) (here next : ℕ) (place : Bool → ℕ) → Tells b P
    → here ≡ place false → next ≡ place true → Finds ws ((all, r, next) ∷ ts) c → Finds ((P, number_of r, here) ∷ ws) ((b && all, r, place b) ∷ ts) c
unfolding first_fault
many {ws = ws} {ts = ts} {c = c} {r = r} {b = true} all here next place f e g h = record { found = inr (λ q. q (f.iff.0 tt), (subst (λ (p : ℕ). Finds ws ((all, r, p) ∷ ts) c) g h).found) }
many {b = false} all here next place f e g h = record { found = inl (f.iff.1, refl, e) }

module _ (c : Counts) (ws : List (Type 0 × ℕ × ℕ)) (ts : List (Bool × Reason × ℕ)) (rest : Finds ws ts c) where
  letters-found : (at : ℕ) (l : List ℕ) → Finds (each_letter at l ++ ws) ((ascending l, LettersNotAscending, at + ascending_front l) ∷ ts) c
  unfolding each_letter ascending ascending_front first_fault
  letters-found at [] = record { found = rest.found }
  letters-found at (x ∷ []) = record { found = rest.found }
  letters-found at (x ∷ y ∷ l) =
      let k = ascending_front (y ∷ l) in
      many (ascending (y ∷ l)) (at + 1) (at + 1 + k) (λ b. at + suc (cond b k 0)) (less x y) (omega arith) (omega arith) (letters-found (at + 1) (y ∷ l))

  unlike-found : (at : ℕ) (l : List ℕ) → Finds (each_unlike at l ++ ws) ((unlike l, LettersNotAscending, at + unlike_front l) ∷ ts) c
  unfolding each_unlike unlike unlike_front first_fault
  unlike-found at [] = record { found = rest.found }
  unlike-found at (x ∷ l) =
      let k = unlike_front l in
      many (unlike l) at (at + 1 + k) (λ b. at + cond b (suc k) 0) (other_letters x l) (omega arith) (omega arith) (unlike-found (at + 1) l)

  flags-found : (at : ℕ) (l : List ℕ) → Finds (each_flag at l ++ ws) ((flags l, FinalFlag, at + flags_front l) ∷ ts) c
  unfolding each_flag flags flags_front first_fault
  flags-found at [] = record { found = rest.found }
  flags-found at (x ∷ l) =
      let k = flags_front l in
      many (flags l) at (at + 1 + k) (λ b. at + cond b (suc k) 0) (most x 1) (omega arith) (omega arith) (flags-found (at + 1) l)

  operations_found : (letter p at : ℕ) (l : List ℕ) → Finds (each_operation c p at l ++ ws) ((well_ops c letter p l, Operation, at + 2 * ops_front c letter p l) ∷ ts) c
  unfolding each_operation well_ops ops_front first_fault
  operations_found letter zero at l = record { found = rest.found }
  operations_found letter (suc p) at l =
      let k = ops_front c letter p (drop 2 l) in
      many (well_ops c letter p (drop 2 l)) at (at + 2 + 2 * k) (λ b. at + 2 * cond b (suc k) 0) (operation c letter (get_or l 0 0) (get_or l 1 0)) (omega arith) (omega arith) (operations_found letter p (at + 2) (drop 2 l))

arcs-found : (c : Counts) (m at : ℕ) (l : List ℕ) → Finds (each_arc c m at l) (arcs_tests m c at l) c
unfolding each_arc arcs_tests first_fault
arcs-found c zero at l = step (record { iff = (λ t. omega (arith, leb→le (length l) 0 t), λ e. le→leb (length l) 0 (omega arith)) }) (λ _. record { found = (refl, refl) })
arcs-found c (suc m) at l =
    step (most 4 (length l)) λ _.
    step (less (get_or l 0 0) c.states) λ _.
    step (either (equal (get_or l 1 0) 255) (less (get_or l 1 0) c.letters)) λ _.
    step (less (get_or l 2 0) c.states) λ _.
    step (within 1 8 (get_or l 3 0)) λ _.
    step (most (arc_size l) (length l)) λ _.
    operations_found c (each_arc c m (at + arc_size l) (drop (arc_size l) l)) (arcs_tests m c (at + arc_size l) (drop (arc_size l) l)) (arcs-found c m (at + arc_size l) (drop (arc_size l) l)) (get_or l 1 0) (get_or l 3 0) (at + 4) (drop 4 l)

-- ---- the whole file
file-found : (s : List ℕ) → Finds (wanted s) (file_tests s) (counts_of s)
file-found s =
    let c = counts_of s in
    step (most 12 (length s)) λ _.
    step (mark s) λ _.
    step (equal (get_or s 3 0 + 256 * get_or s 4 0) 1) λ _.
    step (most c.letters 64) λ _.
    step (within 1 256 c.states) λ _.
    step (within 1 8 c.registers) λ _.
    step (within 1 16 c.symbols) λ _.
    step (most c.arcs 2048) λ _.
    step (most (12 + c.letters) (length s)) λ _.
    letters-found c _ _ (
    unlike-found c _ _ (
    step (most (first_arc c) (length s)) λ _.
    flags-found c _ _ (arcs-found c c.arcs (first_arc c) (drop (first_arc c) s)) (flags_at c) (flag_bytes c s)
    ) 12 (letter_bytes c s)
    ) 12 (letter_bytes c s)

pub file-first : (s : List ℕ) → FirstHolds (faults s) (told (reading_of s)).number (told (reading_of s)).place
unfolding reading_of
file-first s = (file-found s).found
