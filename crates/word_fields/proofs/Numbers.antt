-- Numbers: among entries that differ, what is found is the number that Exploration gives it.
use mathlib.Core.Path.{◌≡◌, refl, sym, ap, ◌∙◌, subst}
use mathlib.Core.Logic.{◌↔◌}
use mathlib.Core.Bool.{Bool, true, false}
use mathlib.Core.List.{List, [], ◌∷◌}
use mathlib.Core.Option.{some}
use Prim.Native.Nat.{ℕ, zero, suc, ◌+◌, ◌≤◌, ◌<◌}
use native.Mathlib.Decide.{ℕ_discrete}
use native.Mathlib.Omega.{arith}
use borrow.Author.Tests.{eq-eqb}
use lib.Dec.{T, eqb, eqb→eq}
use lib.ListN.{length, get_or, get_elem?, take, drop, length-take, length-drop}
use lib.Seq.{get_or-take, get_or-drop}
use Rattle.automata.proofs.Laws.{at_some, get_elem?-lt}
use Rattle.automata.specs.Exploration.{number, first_or}
use Rattle.word_fields.specs.Chains.{Found, WordAt}

-- the hits are the places of x in the list, and there is at most one
pub found_number : {X : Type 0} {Hit : ℕ → Type 0} (same : X → X → Bool) (x : X) (l : List X) (r : ℕ)
    → ((i : ℕ) (y : X) → get_elem? l i ≡ some y → T (same x y) ↔ Hit i) → ((i j : ℕ) → i < length l → j < length l → Hit i → Hit j → i ≡ j)
    → Found Hit (length l) r → r ≡ number same x l
unfolding number
found_number same x [] r a d f = let h = f.few in omega arith
found_number {X} {Hit} same x (y ∷ l) r a d f =
    go (same x y) refl r f
    (λ q g. found_number same x l q (λ i z e. a (suc i) z e) (λ i j h k s t. let e = d (suc i) (suc j) (omega arith) (omega arith) s t in omega arith) g)
  where
    first : T (same x y) ↔ Hit 0
    first = a 0 y refl

    -- a hit at the front is the only one
    only : Hit 0 → (r : ℕ) → Found Hit (suc (length l)) r → Dec (r ≡ suc (length l)) → r ≡ 0
    only t r f (yes e) = absurd (f.miss e 0 (omega arith) t)
    only t r f (no n) = let h = f.few in d r 0 (omega arith) (omega arith) (f.hit (omega arith)) t

    go : (b : Bool) → same x y ≡ b → (r : ℕ) → Found Hit (suc (length l)) r
        → ((q : ℕ) → Found (λ i. Hit (suc i)) (length l) q → q ≡ number same x l) → r ≡ first_or b (number same x l)
    go true e r f ih = only (first.0 (rw e tt)) r f (ℕ_discrete r (suc (length l)))
    go false e zero f ih = absurd (subst T e (first.1 (f.hit (omega arith))))
    go false e (suc r) f ih = let h = f.few in ap suc (ih r (record { few = omega arith; hit = λ h. f.hit (omega arith); miss = λ p i h. f.miss (ap suc p) (suc i) (omega arith) }))

-- in a table of words that differ
pub word_number : (w : List ℕ) (table n x r : ℕ) → table + n ≤ length w → ((i j : ℕ) → i < n → j < n → get_or w (table + i) 0 ≡ get_or w (table + j) 0 → i ≡ j)
    → Found (WordAt w table x) n r → r ≡ number eqb x (take n (drop table w))
word_number w table n x r h d f =
    found_number eqb x (take n (drop table w)) r (λ i y e. same i y e)
    (λ i j l m s t. d i j (omega (arith, long)) (omega (arith, long)) (s ∙ sym t)) (subst (λ (k : ℕ). Found (WordAt w table x) k r) (sym long) f)
  where
    long : length (take n (drop table w)) ≡ n
    long = simp (length-take, length-drop) (omega arith)

    same : (i y : ℕ) → get_elem? (take n (drop table w)) i ≡ some y → T (eqb x y) ↔ (get_or w (table + i) 0 ≡ x)
    same i y e =
        let l = get_elem?-lt (take n (drop table w)) i e in
        let z : get_or (take n (drop table w)) i 0 ≡ y = cc (at_some (take n (drop table w)) i 0 l) in
        let q : y ≡ get_or w (table + i) 0 = sym z ∙ get_or-take n (drop table w) i 0 (omega (arith, long)) ∙ get_or-drop table w i 0 in
        (λ t. sym (eqb→eq x y t ∙ q), λ g. rw (eq-eqb x y (sym (q ∙ g))) tt)
