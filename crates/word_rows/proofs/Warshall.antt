-- Warshall: Warshall's algorithm on a relation, with no word in sight: through 0, 1, 2 .. in turn.
use mathlib.Core.Path.{◌≡◌, refl, sym, subst}
use mathlib.Core.Logic.{◌↔◌, ◌⊎◌, inl, inr, ⊎_elim}
use mathlib.Core.Bool.{Bool, ◌||◌, ◌&&◌, or-false, or_self, and-true, and-false}
use Prim.Native.Nat.{ℕ, ◌+◌, ◌≤◌, ◌<◌}
use native.Mathlib.Decide.{ℕ_discrete, dec_lt}
use native.Mathlib.Omega.{arith}
use borrow.Author.Tests.{eq-eqb, ne_eqb}
use lib.Dec.{T, eqb}
use Rattle.word_rows.specs.Rows.{Link, Closure, here, next}
use Rattle.automata.proofs.Laws.{and-iff, or_iff}

-- R, and its steps by way of k
abbrev pub via : (ℕ → ℕ → Bool) → ℕ → ℕ → ℕ → Bool
via R k i j = R i j || (R i k && R k j)

-- R lies between R₀ and its closure, and has each path whose inner stations are below n and k
pub record Closing (n k : ℕ) (R₀ R : ℕ → ℕ → Bool) : Type 0 where
  pub keeps : (i j : ℕ) → i < n → T (R₀ i j) → T (R i j)
  pub sound : (i j : ℕ) → i < n → T (R i j) → Closure (Link n R₀) i j
  pub closed : (i m j : ℕ) → i < n → m < n → m < k → T (R i m) → T (R m j) → T (R i j)

closure-then : {S : ℕ → ℕ → Type 0} {i j k : ℕ} → Closure S i j → Closure S j k → Closure S i k
closure-then here q = q
closure-then (next s p) q = next s (closure-then p q)

pub Closing-start : (n : ℕ) (R : ℕ → ℕ → Bool) → Closing n 0 R R
Closing-start n R = record { keeps = λ i j h t. t; sound = λ i j h t. next (h, t) here; closed = λ i m j h b l s t. absurd (omega arith) }

pub Closing-more : {n k : ℕ} {R₀ R R' : ℕ → ℕ → Bool} → k < n → ((i j : ℕ) → i < n → R' i j ≡ via R k i j) → Closing n k R₀ R → Closing n (k + 1) R₀ R'
Closing-more {n} {k} {R₀} {R} {R'} l e c = record {
  keeps = λ i j h t. old i j h (c.keeps i j h t);
  sound = λ i j h t. ⊎_elim (λ s. c.sound i j h s) (λ s. closure-then (c.sound i k h s.0) (c.sound k j l s.1)) (from i j h t);
  closed = λ i m j h b q s t. step i m j h b (from i m h s) t (ℕ_discrete m k) q;
}
  where
    from : (i j : ℕ) → i < n → T (R' i j) → T (R i j) ⊎ (T (R i k) × T (R k j))
    from i j h t = ⊎_elim (λ s. inl s) (λ s. inr ((and-iff (R i k) (R k j)).0 s)) ((or_iff (R i j) (R i k && R k j)).0 (subst T (e i j h) t))

    old : (i j : ℕ) → i < n → T (R i j) → T (R' i j)
    old i j h t = subst T (sym (e i j h)) ((or_iff (R i j) (R i k && R k j)).1 (inl t))

    new : (i j : ℕ) → i < n → T (R i k) → T (R k j) → T (R' i j)
    new i j h s t = subst T (sym (e i j h)) ((or_iff (R i j) (R i k && R k j)).1 (inr ((and-iff (R i k) (R k j)).1 (s, t))))

    -- by way of k itself: the last step to k and the first from there are steps of R
    by_k : (i j : ℕ) → i < n → T (R i k) ⊎ (T (R i k) × T (R k k)) → T (R k j) ⊎ (T (R k k) × T (R k j)) → T (R' i j)
    by_k i j h s t = new i j h (⊎_elim (λ u. u) (λ u. u.0) s) (⊎_elim (λ u. u) (λ u. u.1) t)

    -- by way of an earlier m
    by_m : (i m j : ℕ) → i < n → m < n → m < k → T (R i m) ⊎ (T (R i k) × T (R k m)) → T (R m j) ⊎ (T (R m k) × T (R k j)) → T (R' i j)
    by_m i m j h b q (inl s) (inl t) = old i j h (c.closed i m j h b q s t)
    by_m i m j h b q (inl s) (inr t) = new i j h (c.closed i m k h b q s t.0) t.1
    by_m i m j h b q (inr s) (inl t) = new i j h s.0 (c.closed k m j l b q s.1 t)
    by_m i m j h b q (inr s) (inr t) = new i j h s.0 t.1

    step : (i m j : ℕ) → i < n → m < n → T (R i m) ⊎ (T (R i k) × T (R k m)) → T (R' m j) → Dec (m ≡ k) → m < k + 1 → T (R' i j)
    step i m j h b s t (yes p) q = by_k i j h (subst (λ (x : ℕ). T (R i x) ⊎ (T (R i k) × T (R k x))) p s) (from k j l (subst (λ (x : ℕ). T (R' x j)) p t))
    step i m j h b s t (no p) q = by_m i m j h b (omega arith) s (from m j b t)

-- k leads to itself alone: nothing changes by way of k
pub Closing-skip : {n k : ℕ} {R₀ R : ℕ → ℕ → Bool} → k < n → ((j : ℕ) → R k j ≡ eqb j k) → Closing n k R₀ R → Closing n (k + 1) R₀ R
Closing-skip {n} {k} {R₀} {R} l e c = Closing-more l (λ i j h. go i j (ℕ_discrete j k)) c
  where
    go : (i j : ℕ) → Dec (j ≡ k) → R i j ≡ (R i j || (R i k && R k j))
    go i j (yes p) = rw (e j, eq-eqb j k p, p, and-true (R i k)) (sym (or_self (R i k)))
    go i j (no p) = rw (e j, ne_eqb j k p, and-false (R i k)) (sym (or-false (R i j)))

-- S has each number that two rows hold, and none from k to before m: another row than its own holds none of these, and nothing changes
-- by way of them
pub Closing-past : {n k m : ℕ} {R₀ R : ℕ → ℕ → Bool} (S : ℕ → Bool) → ((i : ℕ) → i < n → T (R₀ i i))
    → ((i p j : ℕ) → i < p → p < n → T (R₀ i j) → T (R₀ p j) → T (S j)) → ((p : ℕ) → k ≤ p → p < m → ¬ T (S p)) → Closing n k R₀ R → Closing n m R₀ R
Closing-past {n} {k} {m} {R₀} {R} S own twice none c = record { keeps = c.keeps; sound = c.sound; closed = λ i p j h b l s t. go i p j h b l s t (dec_lt p k) }
  where
    -- the last step to b from elsewhere
    elsewhere : {a b : ℕ} → b < n → ¬ (a ≡ b) → Closure (Link n R₀) a b → T (S b)
    elsewhere l q here = absurd (q refl)
    elsewhere {a} {b} l q (next {j = p} s r) = last (ℕ_discrete p b) (λ e. elsewhere l e r)
      where
        first : T (R₀ a b) → Dec (a < b) → T (S b)
        first t (yes h) = twice a b b h l t (own b l)
        first t (no h) = twice b a b (omega (arith, q)) s.0 (own b l) t

        last : Dec (p ≡ b) → (¬ (p ≡ b) → T (S b)) → T (S b)
        last (yes e) f = first (subst (λ (x : ℕ). T (R₀ a x)) e s.1) (dec_lt a b)
        last (no e) f = f e

    go : (i p j : ℕ) → i < n → p < n → p < m → T (R i p) → T (R p j) → Dec (p < k) → T (R i j)
    go i p j h b l s t (yes q) = c.closed i p j h b q s t
    go i p j h b l s t (no q) = same (ℕ_discrete i p)
      where
        same : Dec (i ≡ p) → T (R i j)
        same (yes e) = rw e t
        same (no e) = absurd (none p (omega arith) l (elsewhere b e (c.sound i p h s)))

-- through all of them: the closure
pub closing_end : {n k : ℕ} {R₀ R : ℕ → ℕ → Bool} → n ≤ k → ((i : ℕ) → i < n → T (R₀ i i)) → Closing n k R₀ R
    → (i j : ℕ) → i < n → T (R i j) ↔ Closure (Link n R₀) i j
closing_end {n} {k} {R₀} {R} g d c i j h = (c.sound i j h, λ p. walk h p)
  where
    walk : {a b : ℕ} → a < n → Closure (Link n R₀) a b → T (R a b)
    walk {a} l here = c.keeps a a l (d a l)
    walk l (next s here) = c.keeps _ _ l s.1
    walk l (next s (next t p)) = c.closed _ _ _ l t.0 (omega (arith, t.0)) (c.keeps _ _ l s.1) (walk t.0 (next t p))
