-- WordOrderLaws: the order of words is an order in which any two words stand, and one letter more keeps it; the first word that has a
-- property is one word, and a shortest (specs/WordOrder.antt).
use mathlib.Core.Path.{◌∙◌, ◌≡◌, ap, ap₂, refl, sym}
use mathlib.Core.Logic.{◌↔◌, ◌⊎◌, inl, inr}
use Prim.Native.Nat.{◌<◌, ◌≤◌, ℕ}
use lib.ListN.{length, length-append}
use mathlib.Core.List.{List, [], ◌++◌, ◌∷◌}
use native.Mathlib.Decide.{dec_lt}
use native.Mathlib.Omega.{arith}
use Rattle.automata.specs.WordOrder.{Before, Earliest, Lower}

-- ---- words of one length
Lower-trans : (u v w : List ℕ) → Lower u v → Lower v w → Lower u w
Lower-trans [] v w p q = absurd p
Lower-trans (x ∷ u) [] w p q = absurd p
Lower-trans (x ∷ u) (y ∷ v) [] p q = absurd q
Lower-trans (x ∷ u) (y ∷ v) (z ∷ w) (inl h) (inl k) = inl (omega arith)
Lower-trans (x ∷ u) (y ∷ v) (z ∷ w) (inl h) (inr k) = inl (omega (arith, k.0))
Lower-trans (x ∷ u) (y ∷ v) (z ∷ w) (inr h) (inl k) = inl (omega (arith, h.0))
Lower-trans (x ∷ u) (y ∷ v) (z ∷ w) (inr h) (inr k) = inr (h.0 ∙ k.0, Lower-trans u v w h.1 k.1)

Lower-not : (v w : List ℕ) → Lower v w → ¬ Lower w v
Lower-not [] w p q = p
Lower-not (x ∷ v) [] p q = p
Lower-not (x ∷ v) (y ∷ w) (inl h) (inl k) = omega arith
Lower-not (x ∷ v) (y ∷ w) (inl h) (inr k) = omega (arith, k.0)
Lower-not (x ∷ v) (y ∷ w) (inr h) (inl k) = omega (arith, h.0)
Lower-not (x ∷ v) (y ∷ w) (inr h) (inr k) = Lower-not v w h.1 k.1

Lower-one : (v w : List ℕ) → length v ≡ length w → ¬ Lower v w → ¬ Lower w v → v ≡ w
Lower-one [] [] e h k = refl
Lower-one [] (y ∷ w) e h k = absurd (omega arith)
Lower-one (x ∷ v) [] e h k = absurd (omega arith)
Lower-one (x ∷ v) (y ∷ w) e h k = go (λ s. Lower-one v w (omega arith) (λ p. h (inr (s, p))) (λ p. k (inr (sym s, p)))) (dec_lt x y) (dec_lt y x)
  where
    go : (x ≡ y → v ≡ w) → Dec (x < y) → Dec (y < x) → x ∷ v ≡ y ∷ w
    go rest (yes l) m = absurd (h (inl l))
    go rest (no l) (yes m) = absurd (k (inl m))
    go rest (no l) (no m) = let s : x ≡ y = omega arith in ap₂ (λ (i : ℕ) (u : List ℕ). i ∷ u) s (rest s)

Lower-append : (v w s t : List ℕ) → Lower v w → Lower (v ++ s) (w ++ t)
Lower-append [] w s t p = absurd p
Lower-append (x ∷ v) [] s t p = absurd p
Lower-append (x ∷ v) (y ∷ w) s t (inl h) = inl h
Lower-append (x ∷ v) (y ∷ w) s t (inr h) = inr (h.0, Lower-append v w s t h.1)

lower_last : (w : List ℕ) (x y : ℕ) → x < y → Lower (w ++ x ∷ []) (w ++ y ∷ [])
lower_last [] x y h = inl h
lower_last (z ∷ w) x y h = inr (refl, lower_last w x y h)

-- ---- words of any length
pub before-trans : (u v w : List ℕ) → Before u v → Before v w → Before u w
before-trans u v w (inl h) (inl k) = inl (omega arith)
before-trans u v w (inl h) (inr k) = inl (omega (arith, k.0))
before-trans u v w (inr h) (inl k) = inl (omega (arith, h.0))
before-trans u v w (inr h) (inr k) = inr (h.0 ∙ k.0, Lower-trans u v w h.1 k.1)

pub before-not : (v w : List ℕ) → (v ≡ w) ⊎ Before v w → ¬ Before w v
before-not v w (inl e) (inl k) = omega (arith, ap length e)
before-not v w (inl e) (inr k) = let l : Lower v v = rw (← e) at k.1 in Lower-not v v l l
before-not v w (inr (inl h)) (inl k) = omega arith
before-not v w (inr (inl h)) (inr k) = omega (arith, k.0)
before-not v w (inr (inr h)) (inl k) = omega (arith, h.0)
before-not v w (inr (inr h)) (inr k) = Lower-not v w h.1 k.1

-- a word that does not come before another is at least as long
pub not-before-long : (v w : List ℕ) → ¬ Before w v → length v ≤ length w
not-before-long v w h = go (dec_lt (length w) (length v))
  where
    go : Dec (length w < length v) → length v ≤ length w
    go (yes l) = absurd (h (inl l))
    go (no l) = omega arith

-- two words of which none comes before the other are one
pub before-one : (v w : List ℕ) → ¬ Before v w → ¬ Before w v → v ≡ w
before-one v w h k =
    let e : length v ≡ length w = omega (arith, not-before-long v w k, not-before-long w v h) in
    Lower-one v w e (λ l. h (inr (e, l))) (λ l. k (inr (sym e, l)))

-- ---- one letter more
module _ (v w : List ℕ) (x y : ℕ) where
  pub before-longer : Before v (v ++ x ∷ [])
  before-longer = inl (omega (arith, length-append v (x ∷ [])))

  pub before_last : x < y → Before (v ++ x ∷ []) (v ++ y ∷ [])
  before_last h = inr (length-append v (x ∷ []) ∙ sym (length-append v (y ∷ [])), lower_last v x y h)

  pub before_more : Before v w → Before (v ++ x ∷ []) (w ++ y ∷ [])
  before_more (inl h) = inl (omega (arith, length-append v (x ∷ []), length-append w (y ∷ [])))
  before_more (inr h) = inr (omega (arith, h.0, length-append v (x ∷ []), length-append w (y ∷ [])), Lower-append v w (x ∷ []) (y ∷ []) h.1)

-- ---- the first word that has a property
module _ {P : List ℕ → Type 0} where
  pub earliest-shortest : (v : List ℕ) → Earliest Before P v → (w : List ℕ) → P w → length v ≤ length w
  earliest-shortest v e w p = not-before-long v w (e.first w p)

  pub earliest-one : (v w : List ℕ) → Earliest Before P v → Earliest Before P w → v ≡ w
  earliest-one v w e f = before-one v w (f.first v e.has) (e.first w f.has)

  -- that of a property that holds of the same words
  pub earliest-same : {Q : List ℕ → Type 0} (v : List ℕ) → ((w : List ℕ) → P w ↔ Q w) → Earliest Before P v → Earliest Before Q v
  earliest-same v iff e = record { has = (iff v).0 e.has; first = λ w q. e.first w ((iff w).1 q) }
