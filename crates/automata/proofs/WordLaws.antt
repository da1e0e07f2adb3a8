-- WordLaws: words as bytes: what they stand for, and how properties of words carry over to them.
use mathlib.Core.Path.{◌∙◌, ◌≡◌, ap, ap₂, refl, subst, sym}
use mathlib.Core.Logic.{◌↔◌, ◌⊎◌, inl, inr, ⊎_elim}
use Prim.Native.Nat.{◌<◌, suc, zero, ℕ}
use borrow.Author.Tests.{eq-eqb, lt-ltb, ne_eqb}
use lib.Dec.{T, eqb, ltb, ltb→lt, lt→ltb}
use lib.ListN.{get_or, get_elem?, length, length-map}
use mathlib.Core.Bool.{Bool, false, true}
use mathlib.Core.List.{List, Memᴰ, [], ◌++◌, ◌∷◌}
use mathlib.Core.Option.{map, some-injective, bind-eq-some_iff, map-eq-some_iff, none, some}
use native.Mathlib.Omega.{arith}
use Rattle.automata.specs.Counting.{Apart}
use Rattle.automata.specs.Exploration.{first, number}
use Rattle.automata.specs.Languages.{Concatenation, Star, more, nothing}
use Rattle.automata.specs.Automaton.{Automaton, letters}
use Rattle.automata.specs.Letters.{key, keys}
use Rattle.automata.specs.Lists.{only}
use Rattle.automata.specs.WordOrder.{BeforeIn}
use Rattle.automata.specs.Words.{Listed, SameLetters, Spelled, Spells, letter_with, place, places, same_letters, spelling}
use Rattle.automata.proofs.ListLaws.{at_map, at_mem, at_some, eqb-iff, get_elem?-lt, mem_at, only-iff, same_by-iff}
use Rattle.automata.proofs.NumberLaws.{apart_distinct, number_at, number-found, one_number}
use Rattle.automata.proofs.WordOrderLaws.{before-one}

-- ---- the numbers that are computed are those that the bytes stand for
module _ (alphabet : List ℕ) (apart : Apart (keys alphabet)) where
  -- no letter stands in two places
  one_place : (i k : ℕ) {x : ℕ} → get_elem? (keys alphabet) i ≡ some x → get_elem? (keys alphabet) k ≡ some x → i ≡ k
  one_place i k = one_number eqb eqb-iff (keys alphabet) i k (apart_distinct eqb eqb-iff (keys alphabet) apart)

  place_is : (byte k : ℕ) → get_elem? (keys alphabet) k ≡ some (key byte) → place alphabet byte ≡ k
  place_is byte k e = one_place (place alphabet byte) k (number_at eqb eqb-iff (at_mem (keys alphabet) k e)) e

  letter_with-iff : (byte k : ℕ) → (letter_with alphabet byte ≡ some k) ↔ (get_elem? (keys alphabet) k ≡ some (key byte))
  unfolding letter_with
  letter_with-iff byte k = simp only-iff (
    λ p. rw (← p.1) (number-found eqb eqb-iff (key byte) (keys alphabet) (omega (arith, ltb→lt (place alphabet byte) (length alphabet) p.0, length-map alphabet key))),
    λ e. let q = place_is byte k e in (lt→ltb (place alphabet byte) (length alphabet) (omega (arith, get_elem?-lt (keys alphabet) k e, length-map alphabet key)), q),
  )

  -- the byte at a place, and any byte that stands for the same letter, has that number
  pub letter_at : (byte k : ℕ) → k < length alphabet → key (get_or alphabet k 0) ≡ key byte → letter_with alphabet byte ≡ some k
  letter_at byte k h e = (letter_with-iff byte k).1 (at_map key alphabet k ∙ ap (map key) (at_some alphabet k 0 h) ∙ ap some e)

  -- the computed spelling is the one spelling there is
  pub spelling-iff : (s w : List ℕ) → (spelling alphabet s ≡ some w) ↔ Spells alphabet s w
  unfolding spelling
  spelling-iff [] [] = (λ e. tt, λ e. refl)
  spelling-iff [] (k ∷ w) = (λ e. let z : ◌≡◌ {A = ℕ} 0 1 = cc in absurd (omega arith), λ e. absurd e)
  spelling-iff (byte ∷ s) [] = (
    λ e. let p = (bind-eq-some_iff (letter_with alphabet byte) _).0 e in
        let q = (map-eq-some_iff (λ (w : List ℕ). p.0 ∷ w) (spelling alphabet s)).0 p.2 in
        let f : p.0 ∷ q.0 ≡ [] = q.2 in let z : ◌≡◌ {A = ℕ} 0 1 = cc in absurd (omega arith),
    λ e. absurd e,
  )
  spelling-iff (byte ∷ s) (k ∷ w) = (
    λ e. let p = (bind-eq-some_iff (letter_with alphabet byte) _).0 e in
        let q = (map-eq-some_iff (λ (w : List ℕ). p.0 ∷ w) (spelling alphabet s)).0 p.2 in
        let f : p.0 ∷ q.0 ≡ k ∷ w = q.2 in
        let i : p.0 ≡ k = cc in
        let j : q.0 ≡ w = cc in
        ((letter_with-iff byte k).0 (rw (← i) p.1), (spelling-iff s w).0 (rw (← j) q.1)),
    λ e. (bind-eq-some_iff (letter_with alphabet byte) _).1 (k, (letter_with-iff byte k).1 e.0, (map-eq-some_iff (λ (w : List ℕ). k ∷ w) (spelling alphabet s)).1 (w, (spelling-iff s w).1 e.1, refl)),
  )

  one-spelling : (s v w : List ℕ) → Spells alphabet s v → Spells alphabet s w → v ≡ w
  one-spelling s v w p q = some-injective v w (sym ((spelling-iff s v).1 p) ∙ (spelling-iff s w).1 q)

  -- the places of a word's letters are their numbers
  pub spells-places : (s v : List ℕ) → Spells alphabet s v → places alphabet s ≡ v
  spells-places [] [] p = refl
  spells-places [] (k ∷ v) p = absurd p
  spells-places (byte ∷ s) [] p = absurd p
  spells-places (byte ∷ s) (k ∷ v) p =
      ap₂ (λ (i : ℕ) (w : List ℕ). i ∷ w) (place_is byte k p.0) (spells-places s v p.1)

  -- a byte of the list stands where its letter does
  listed_at : (k : ℕ) {byte : ℕ} → Memᴰ byte alphabet → get_elem? (keys alphabet) k ≡ some (key byte) → get_elem? alphabet k ≡ some byte
  listed_at k m e =
      let p = mem_at m in
      let i : p.0 ≡ k = one_place p.0 k (at_map key alphabet p.0 ∙ ap (map key) p.1) e in
      rw (← i) p.1

  -- two words in the bytes of the list of which none comes before the other are one
  pub spelled-one : (s t v w : List ℕ) → Listed alphabet s → Listed alphabet t → Spells alphabet s v → Spells alphabet t w → ¬ BeforeIn alphabet s t → ¬ BeforeIn alphabet t s → s ≡ t
  spelled-one s t v w a b p q h k =
      let e : v ≡ w = before-one v w (λ b. h (rw (spells-places s v p, spells-places t w q) b)) (λ b. k (rw (spells-places s v p, spells-places t w q) b)) in
      same_bytes s t v a b p (rw e q)
    where
      same_bytes : (s t v : List ℕ) → Listed alphabet s → Listed alphabet t → Spells alphabet s v → Spells alphabet t v → s ≡ t
      same_bytes [] [] v a b p q = refl
      same_bytes [] (y ∷ t) [] a b p q = absurd q
      same_bytes [] (y ∷ t) (k ∷ v) a b p q = absurd p
      same_bytes (x ∷ s) [] [] a b p q = absurd p
      same_bytes (x ∷ s) [] (k ∷ v) a b p q = absurd q
      same_bytes (x ∷ s) (y ∷ t) [] a b p q = absurd p
      same_bytes (x ∷ s) (y ∷ t) (k ∷ v) a b p q =
          ap₂ (λ (i : ℕ) (w : List ℕ). i ∷ w) (some-injective x y (sym (listed_at k a.0 p.0) ∙ listed_at k b.0 q.0)) (same_bytes s t v a.1 b.1 p.1 q.1)

  -- both properties hold of one word
  pub spelled-both : (P Q : List ℕ → Type 0) (s : List ℕ) → Spelled alphabet (λ w. P w × Q w) s ↔ (Spelled alphabet P s × Spelled alphabet Q s)
  spelled-both P Q s = (
    λ t. (record { word = t.word; spells = t.spells; holds = t.holds.0 }, record { word = t.word; spells = t.spells; holds = t.holds.1 }),
    λ t. record {
      word = t.0.word;
      spells = t.0.spells;
      holds = (t.0.holds, subst Q (one-spelling s t.1.word t.0.word t.1.spells t.0.spells) t.1.holds);
    },
  )

-- ---- a byte that stands for the letter at no place has no number
pub letter-nowhere : (alphabet : List ℕ) (byte : ℕ) → ((k : ℕ) → k < length alphabet → ¬ (key (get_or alphabet k 0) ≡ key byte)) → letter_with alphabet byte ≡ none
unfolding letter_with
letter-nowhere alphabet byte h = go (ltb n (length alphabet)) (ltb→lt n (length alphabet))
  where
    n : ℕ
    n = place alphabet byte

    go : (b : Bool) → (T b → n < length alphabet) → only b n ≡ none
    go false f = refl
    go true f =
        let k = f tt in
        let e = number-found eqb eqb-iff (key byte) (keys alphabet) (omega (arith, k, length-map alphabet key)) in
        absurd (h n k (some-injective _ _ (sym (at_map key alphabet n ∙ ap (map key) (at_some alphabet n 0 k)) ∙ e)))

-- the first place that has its letter is a byte's number
place-first : (alphabet : List ℕ) (byte k : ℕ) → k < length alphabet → key (get_or alphabet k 0) ≡ key byte → ((j : ℕ) → j < k → ¬ (key (get_or alphabet j 0) ≡ key byte)) → place alphabet byte ≡ k
unfolding number
place-first [] byte k h e f = absurd (omega arith)
place-first (x ∷ l) byte zero h e f = rw (eq-eqb (key byte) (key x) (sym e))
place-first (x ∷ l) byte (suc k) h e f = rw (ne_eqb (key byte) (key x) (λ q. f 0 (omega arith) (sym q))) (ap suc (place-first l byte k (omega arith) e (λ j g. f (suc j) (omega arith))))

pub letter-first : (alphabet : List ℕ) (byte k : ℕ) → k < length alphabet → key (get_or alphabet k 0) ≡ key byte → ((j : ℕ) → j < k → ¬ (key (get_or alphabet j 0) ≡ key byte)) → letter_with alphabet byte ≡ some k
unfolding letter_with
letter-first alphabet byte k h e f = rw (place-first alphabet byte k h e f, lt-ltb k (length alphabet) h)

-- a letter's number is below how many there are
pub letter-lt : (alphabet : List ℕ) (byte k : ℕ) → letter_with alphabet byte ≡ some k → k < length alphabet
unfolding letter_with
letter-lt alphabet byte k e =
    let p = (only-iff (ltb (place alphabet byte) (length alphabet)) (place alphabet byte) k).0 e in
    omega (arith, ltb→lt (place alphabet byte) (length alphabet) p.0, p.1)

-- ---- lists of the same letters
pub same_letters-iff : (x y : Automaton) → T (same_letters x y) ↔ SameLetters x y
same_letters-iff x y = same_by-iff eqb eqb-iff (keys x.alphabet) (keys y.alphabet)

-- there are as many
pub same-many : (x y : Automaton) → SameLetters x y → letters y ≡ letters x
same-many x y e = sym (length-map y.alphabet key) ∙ ap length (sym e) ∙ length-map x.alphabet key

-- they spell the same words
pub spells-keys : (a b : List ℕ) → keys a ≡ keys b → (s w : List ℕ) → Spells a s w → Spells b s w
spells-keys a b e [] [] p = tt
spells-keys a b e [] (k ∷ w) p = absurd p
spells-keys a b e (byte ∷ s) [] p = absurd p
spells-keys a b e (byte ∷ s) (k ∷ w) p = (rw e at p.0, spells-keys a b e s w p.1)

pub spelled-keys : (a b : List ℕ) → keys a ≡ keys b → (P : List ℕ → Type 0) (s : List ℕ) → Spelled a P s ↔ Spelled b P s
spelled-keys a b e P s = (
  λ t. record { word = t.word; spells = spells-keys a b e s t.word t.spells; holds = t.holds },
  λ t. record { word = t.word; spells = spells-keys b a (sym e) s t.word t.spells; holds = t.holds },
)

module _ (alphabet : List ℕ) where
  -- ---- what holds of the same words
  pub spelled_same : (P Q : List ℕ → Type 0) → ((w : List ℕ) → P w ↔ Q w) → (s : List ℕ) → Spelled alphabet P s ↔ Spelled alphabet Q s
  spelled_same P Q f s = (
    λ t. record { word = t.word; spells = t.spells; holds = (f t.word).0 t.holds },
    λ t. record { word = t.word; spells = t.spells; holds = (f t.word).1 t.holds },
  )

  pub spelled-either : (P Q : List ℕ → Type 0) (s : List ℕ) → Spelled alphabet (λ w. P w ⊎ Q w) s ↔ (Spelled alphabet P s ⊎ Spelled alphabet Q s)
  spelled-either P Q s = (
    λ t. ⊎_elim (λ p. inl (record { word = t.word; spells = t.spells; holds = p })) (λ q. inr (record { word = t.word; spells = t.spells; holds = q })) t.holds,
    λ t. ⊎_elim (λ p. record { word = p.word; spells = p.spells; holds = inl p.holds }) (λ q. record { word = q.word; spells = q.spells; holds = inr q.holds }) t,
  )

  -- ---- one word after the other
  spells-append : (s t v w : List ℕ) → Spells alphabet s v → Spells alphabet t w → Spells alphabet (s ++ t) (v ++ w)
  spells-append [] t [] w p q = q
  spells-append [] t (k ∷ v) w p q = absurd p
  spells-append (byte ∷ s) t [] w p q = absurd p
  spells-append (byte ∷ s) t (k ∷ v) w p q = (p.0, spells-append s t v w p.1 q)

  record Parted (s v w : List ℕ) : Type 0 where
    front : List ℕ
    back : List ℕ
    whole : s ≡ front ++ back
    spells_front : Spells alphabet front v
    spells_back : Spells alphabet back w

  parted : (s v w : List ℕ) → Spells alphabet s (v ++ w) → Parted s v w
  parted s [] w p = record { front = []; back = s; whole = refl; spells_front = tt; spells_back = p }
  parted [] (k ∷ v) w p = absurd p
  parted (byte ∷ s) (k ∷ v) w p =
      let r = parted s v w p.1 in
      record { front = byte ∷ r.front; back = r.back; whole = ap (λ (l : List ℕ). byte ∷ l) r.whole; spells_front = (p.0, r.spells_front); spells_back = r.spells_back }

  pub spelled-split : (P Q : List ℕ → Type 0) (s : List ℕ) → Spelled alphabet (Concatenation P Q) s ↔ Concatenation (Spelled alphabet P) (Spelled alphabet Q) s
  spelled-split P Q s = (
    λ t. let h = t.holds in
        let r = parted s h.left h.right (rw h.whole at t.spells) in
        record {
          left = r.front;
          right = r.back;
          whole = r.whole;
          first = record { word = h.left; spells = r.spells_front; holds = h.first };
          second = record { word = h.right; spells = r.spells_back; holds = h.second };
        },
    λ t. record {
      word = t.first.word ++ t.second.word;
      spells = rw t.whole (spells-append t.left t.right t.first.word t.second.word t.first.spells t.second.spells);
      holds = record { left = t.first.word; right = t.second.word; whole = refl; first = t.first.holds; second = t.second.holds };
    },
  )

  Star-of : (P : List ℕ → Type 0) {w : List ℕ} (s : List ℕ) → Spells alphabet s w → Star P w → Star (Spelled alphabet P) s
  Star-of P [] p nothing = nothing
  Star-of P (byte ∷ s) p nothing = absurd p
  Star-of P {w} s p (more v r e h t) =
      let q = parted s v r (rw e at p) in
      more q.front q.back q.whole (record { word = v; spells = q.spells_front; holds = h }) (Star-of P q.back q.spells_back t)

  of_star : (P : List ℕ → Type 0) {s : List ℕ} → Star (Spelled alphabet P) s → Spelled alphabet (Star P) s
  of_star P nothing = record { word = []; spells = tt; holds = nothing }
  of_star P (more v r e h t) =
      let q = of_star P t in
      record { word = h.word ++ q.word; spells = rw e (spells-append v r h.word q.word h.spells q.spells); holds = more h.word q.word refl h.holds q.holds }

  pub spelled-star : (P : List ℕ → Type 0) (s : List ℕ) → Spelled alphabet (Star P) s ↔ Star (Spelled alphabet P) s
  spelled-star P s = (λ t. Star-of P s t.spells t.holds, of_star P)
