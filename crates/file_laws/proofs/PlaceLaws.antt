-- PlaceLaws: the place of a fault lies in the file, or is its end; and where it is behind the header, the header has no fault.
use mathlib.Core.Path.{◌≡◌, refl, ap}
use mathlib.Core.Bool.{Bool, true, false, cond, not}
use mathlib.Core.List.{List, [], ◌∷◌, ◌++◌}
use Prim.Native.Nat.{ℕ, zero, suc, ◌+◌, ◌<◌, ◌≤◌}
use native.Mathlib.Omega.{arith}
use borrow.Author.Tests.{leb-true}
use lib.Dec.{leb, ltb}
use lib.ListN.{length, get_or, drop, length-drop}
use Rattle.file_fields.specs.declared.Counts.{Counts}
use Rattle.file_fields.specs.declared.Fault.{Fault}
use Rattle.file_fields.specs.declared.Reason.{Reason}
use Rattle.std.specs.Prelude.{Result}
use Rattle.file_fields.specs.Parts.{counts_of, letter_bytes, flag_bytes, first_arc, ascending_front, unlike_front, flags_front, well_op, ops_front, arc_size, arc_tests, arcs_tests, header_tests, first_fault, fault}
use Rattle.format.specs.Reading.{file_tests, reading_of, told}
use Rattle.format.specs.Limits.{Ranges}
use Rattle.format.proofs.Laws.{body_tests, header-seen}
use Rattle.automata.specs.Letters.{same_key}
use Rattle.automata.specs.Lists.{Each, any}
use Rattle.file_fields.proofs.Laws.{Hold, flags-length, letters-length}
use Rattle.file_arcs.proofs.Laws.{arc-seen}

-- ---- how many at the front: no more than there are
ascending-most : (l : List ℕ) → ascending_front l ≤ length l
unfolding ascending_front
ascending-most [] = omega arith
ascending-most (x ∷ []) = omega arith
ascending-most (x ∷ y ∷ l) = go (ltb x y) (ascending-most (y ∷ l))
  where
    go : (b : Bool) → ascending_front (y ∷ l) ≤ length (y ∷ l) → suc (cond b (ascending_front (y ∷ l)) 0) ≤ length (x ∷ y ∷ l)
    go true h = omega arith
    go false h = omega arith

unlike-most : (l : List ℕ) → unlike_front l ≤ length l
unfolding unlike_front
unlike-most [] = omega arith
unlike-most (x ∷ l) = go (not (any (same_key x) l)) (unlike-most l)
  where
    go : (b : Bool) → unlike_front l ≤ length l → cond b (suc (unlike_front l)) 0 ≤ length (x ∷ l)
    go true h = omega arith
    go false h = omega arith

flags-most : (l : List ℕ) → flags_front l ≤ length l
unfolding flags_front
flags-most [] = omega arith
flags-most (x ∷ l) = go (leb x 1) (flags-most l)
  where
    go : (b : Bool) → flags_front l ≤ length l → cond b (suc (flags_front l)) 0 ≤ length (x ∷ l)
    go true h = omega arith
    go false h = omega arith

ops-most : (c : Counts) (letter p : ℕ) (l : List ℕ) → ops_front c letter p l ≤ p
unfolding ops_front
ops-most c letter zero l = omega arith
ops-most c letter (suc p) l = go (well_op c letter (get_or l 0 0) (get_or l 1 0)) (ops-most c letter p (drop 2 l))
  where
    go : (b : Bool) → ops_front c letter p (drop 2 l) ≤ p → cond b (suc (ops_front c letter p (drop 2 l))) 0 ≤ suc p
    go true h = omega arith
    go false h = omega arith

-- ---- tests whose places are at most n where those before them hold
abbrev Inside : ℕ → List (Bool × Reason × ℕ) → Type 0
Inside n [] = Unit {0}
Inside n (t ∷ l) = (t.2 ≤ n) × (t.0 ≡ true → Inside n l)

inside-append : (n : ℕ) (l r : List (Bool × Reason × ℕ)) → Inside n l → (Hold l → Inside n r) → Inside n (l ++ r)
inside-append n [] r h f = f tt
inside-append n (t ∷ l) r h f = (h.0, λ e. inside-append n l r (h.1 e) (λ g. f (e, g)))

inside-place : (n : ℕ) (l : List (Bool × Reason × ℕ)) (c : Counts) {k : Reason} {place : ℕ} → Inside n l → first_fault l c ≡ fault k place → place ≤ n
unfolding first_fault
inside-place n [] c h e = let z : ◌≡◌ {A = ℕ} 0 1 = cc in absurd (omega arith)
inside-place n ((true, k, q) ∷ l) c h e = inside-place n l c (h.1 refl) e
inside-place n ((false, k, q) ∷ l) c {place = place} h e = let same : q ≡ place = ap (λ (a : Result Counts Fault). (told a).place) e in omega (arith, h.0)

-- tests with places below k hold where the fault's place isn't
below-hold : (k : ℕ) (l r : List (Bool × Reason × ℕ)) (c : Counts) {n : Reason} {place : ℕ} → Each (λ t. t.2 < k) l → k ≤ place → first_fault (l ++ r) c ≡ fault n place → Hold l
unfolding first_fault
below-hold k [] r c h b e = tt
below-hold k ((true, m, q) ∷ l) r c h b e = (refl, below-hold k l r c h.1 b e)
below-hold k ((false, m, q) ∷ l) r c {place = place} h b e = let same : q ≡ place = ap (λ (a : Result Counts Fault). (told a).place) e in absurd (omega (arith, h.0))

arcs-inside : (n : ℕ) (c : Counts) (m at : ℕ) (l : List ℕ) → at + length l ≡ n → Inside n (arcs_tests m c at l)
unfolding arcs_tests
arcs-inside n c zero at l e = (omega arith, λ _. tt)
arcs-inside n c (suc m) at l e =
    inside-append n (arc_tests c at l) (arcs_tests m c (at + arc_size l) (drop (arc_size l) l)) arc λ h.
    let a = arc-seen c at l h in
    arcs-inside n c m (at + arc_size l) (drop (arc_size l) l) (omega (arith, a.whole, length-drop (arc_size l) l))
  where
    arc : Inside n (arc_tests c at l)
    arc = (
      omega arith,
      λ four. let h = leb-true 4 (length l) four in (
        omega arith,
        λ _. (
          omega arith,
          λ _. (
            omega arith,
            λ _. (
              omega arith,
              λ _. (
                omega arith,
                λ size. let k = leb-true (arc_size l) (length l) size in let o = ops-most c (get_or l 1 0) (get_or l 3 0) (drop 4 l) in
                    (omega arith, λ _. tt),
              ),
            ),
          ),
        ),
      ),
    )

-- ---- the file
module _ (s : List ℕ) where
  header-inside : Inside (length s) (header_tests s)
  header-inside = (
    omega arith,
    λ twelve. let h = leb-true 12 (length s) twelve in
        (omega arith, λ _. (omega arith, λ _. (omega arith, λ _. (omega arith, λ _. (omega arith, λ _. (omega arith, λ _. (omega arith, λ _. tt))))))),
  )

  body_inside : (c : Counts) → 12 ≤ length s → Inside (length s) (body_tests c s)
  body_inside c h = (
    omega arith,
    λ a. let k = leb-true (12 + c.letters) (length s) a in let n = letters-length c s k in let m = ascending-most (letter_bytes c s) in let u = unlike-most (letter_bytes c s) in (
      omega arith,
      λ _. (
        omega arith,
        λ _. (
          omega arith,
          λ f. let j = leb-true (first_arc c) (length s) f in let n = flags-length c s j in let m = flags-most (flag_bytes c s) in
              (omega arith, λ _. arcs-inside (length s) c c.arcs (first_arc c) (drop (first_arc c) s) (omega (arith, length-drop (first_arc c) s))),
        ),
      ),
    ),
  )

  pub place-most : {r : Reason} {place : ℕ} → reading_of s ≡ fault r place → place ≤ length s
  unfolding reading_of
  place-most e =
      inside-place (length s) (file_tests s) (counts_of s) (inside-append (length s) (header_tests s) (body_tests (counts_of s) s) header-inside (λ h. body_inside (counts_of s) (leb-true 12 (length s) h.0))) e

  pub behind-header : {r : Reason} {place : ℕ} → reading_of s ≡ fault r place → 12 ≤ place → Ranges (counts_of s)
  unfolding reading_of
  behind-header e b =
      let places : Each (λ t. t.2 < 12) (header_tests s) = (omega arith, (omega arith, (omega arith, (omega arith, (omega arith, (omega arith, (omega arith, (omega arith, tt)))))))) in
      (header-seen s (below-hold 12 (header_tests s) (body_tests (counts_of s) s) (counts_of s) places b e)).ranges
