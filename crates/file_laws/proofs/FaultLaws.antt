-- FaultLaws: the number of a fault is one of `fault_numbers`.
use mathlib.Core.Path.{◌≡◌, ap, refl, subst, sym}
use mathlib.Core.Bool.{Bool, true, false, ◌&&◌}
use mathlib.Core.List.{List, Memᴰ, [], ◌∷◌, map}
use Prim.Native.Nat.{ℕ, zero, suc, ◌+◌, ◌<◌}
use native.Mathlib.Omega.{arith}
use borrow.Author.Tests.{leb-true}
use lib.Dec.{eqb, leb}
use lib.ListN.{drop}
use Rattle.file_fields.specs.declared.Counts.{Counts}
use Rattle.file_fields.specs.declared.Reason.{Reason}
use Rattle.file_fields.specs.Parts.{counts_of, first_arc, arc_size, arcs_tests, fault, first_fault, number_of}
use Rattle.format.specs.Reading.{file_tests, reading_of}
use Rattle.format.specs.Refusals.{told_reason}
use Rattle.file_laws.specs.Wanted.{fault_numbers}
use Rattle.automata.specs.Lists.{Each, any}
use Rattle.automata.proofs.Laws.{any-iff, each-mem, eqb-iff}
use Rattle.file_fields.proofs.Laws.{all_hold_lem, and_both}

-- the number of a refusal is that of a test ..
refused-number : (P : Reason → Type 0) (l : List (Bool × Reason × ℕ)) (c : Counts) {r : Reason} {place : ℕ} → Each (λ t. P t.1) l → first_fault l c ≡ fault r place → P r
unfolding first_fault
refused-number P [] c h e = let z : ◌≡◌ {A = ℕ} 0 1 = cc in absurd (omega arith)
refused-number P ((true, k, q) ∷ l) c h e = refused-number P l c h.1 e
refused-number P ((false, k, q) ∷ l) c {r} h e = let same : k ≡ r = ap told_reason e in subst P same h.0

-- .. and those of a file's tests are in `fault_numbers`
abbrev Known : Reason → Type 0
Known r = any (eqb (number_of r)) fault_numbers ≡ true

arcs-known : (c : Counts) (m at : ℕ) (l : List ℕ) → Each (λ t. Known t.1) (arcs_tests m c at l)
unfolding arcs_tests any
arcs-known c zero at l = (refl, tt)
arcs-known c (suc m) at l = (refl, (refl, (refl, (refl, (refl, (refl, (refl, arcs-known c m (at + arc_size l) (drop (arc_size l) l))))))))

tests-known : (s : List ℕ) → Each (λ t. Known t.1) (file_tests s)
unfolding any
tests-known s =
    let c = counts_of s in
    (refl, (refl, (refl, (refl, (refl, (refl, (refl, (refl, (refl, (refl, (refl, (refl, (refl, arcs-known c c.arcs (first_arc c) (drop (first_arc c) s))))))))))))))

pub number-known : (s : List ℕ) (r : Reason) {place : ℕ} → reading_of s ≡ fault r place → Memᴰ (number_of r) fault_numbers
unfolding reading_of
number-known s r e =
    let one = (any-iff (eqb (number_of r)) fault_numbers).0 (rw (refused-number Known (file_tests s) (counts_of s) (tests-known s) e) tt) in
    subst (λ (m : ℕ). Memᴰ m fault_numbers) (sym ((eqb-iff (number_of r) one.0).0 one.2)) one.1

-- none is 0, and each has at most two digits
all-between : Each (λ n. (leb 1 n && leb n 99) ≡ true) fault_numbers
all-between = (all_hold_lem true (map (λ n. leb 1 n && leb n 99) fault_numbers) refl).1

pub number-between : {n : ℕ} → Memᴰ n fault_numbers → (0 < n) × (n < 100)
number-between {n} m =
    let b = and_both (leb 1 n) (leb n 99) (each-mem (λ (k : ℕ). (leb 1 k && leb k 99) ≡ true) all-between m) in
    (leb-true 1 n b.0, omega (arith, leb-true n 99 b.1))

pub number-positive : (s : List ℕ) (r : Reason) {place : ℕ} → reading_of s ≡ fault r place → 0 < number_of r
number-positive s r e = (number-between (number-known s r e)).0
