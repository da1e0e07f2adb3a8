-- LengthLaws: the law of counting words by their length: the number is that of the words, listed letter after letter, that lead to a state
-- that passes; and what it says of an automaton (specs/Lengths.antt).
use mathlib.Core.Path.{◌∙◌, ◌≡◌, ap, ap₂, refl, subst, sym}
use mathlib.Core.Logic.{◌↔◌, ⊎_elim}
use Prim.Native.Nat.{◌*◌, ◌+◌, ◌^◌, ◌<◌, ◌≤◌, suc, zero, ℕ}
use lib.Dec.{T}
use lib.ListN.{length, length-append, length-map}
use mathlib.Core.Bool.{Bool, cond, false, not, true}
use mathlib.Core.List.{List, Memᴰ, [], ◌++◌, ◌∷◌, map}
use native.Mathlib.Decide.{dec_lt}
use native.Mathlib.Nat.{mul-zero, not-suc-le-zero, pow-suc, pow-zero}
use native.Mathlib.Omega.{arith}
use Rattle.automata.specs.Automaton.{Accepts, Automaton, letters}
use Rattle.automata.specs.Counting.{Apart, Exactly}
use Rattle.automata.specs.Lengths.{AcceptedOf, RejectedOf, accepted_many, many_from, rejected_many, sum_below}
use Rattle.automata.specs.LiveSets.{accepts_set, behind}
use Rattle.automata.specs.Search.{Passes, leads}
use Rattle.automata.specs.Unfolding.{configurations, live_set}
use Rattle.automata.proofs.CountingLaws.{counts_same}
use Rattle.automata.proofs.ListLaws.{not_iff}
use Rattle.automata.proofs.LiveSetLaws.{Led-accepts}
use Rattle.automata.proofs.SumLaws.{many-both}

head-is : {x y : ℕ} {v w : List ℕ} → ◌≡◌ {A = List ℕ} (x ∷ v) (y ∷ w) → x ≡ y
head-is e = cc

tail_is : {x y : ℕ} {v w : List ℕ} → ◌≡◌ {A = List ℕ} (x ∷ v) (y ∷ w) → v ≡ w
tail_is e = cc

-- ---- the words l followed by those of f l, for each l below a
abbrev begun : ℕ → List (List ℕ) → List (List ℕ)
begun l ws = map (λ (w : List ℕ). l ∷ w) ws

each_begun : ℕ → (ℕ → List (List ℕ)) → List (List ℕ)
each_begun zero f = []
each_begun (suc a) f = each_begun a f ++ begun a (f a)

Begins : ℕ → (ℕ → List (List ℕ)) → List ℕ → Type 0
Begins a f v = (l : ℕ) × (w : List ℕ) × (l < a) × (v ≡ l ∷ w) × Memᴰ w (f l)

begun-iff : (a : ℕ) (f : ℕ → List (List ℕ)) (v : List ℕ) → Memᴰ v (each_begun a f) ↔ Begins a f v
unfolding each_begun Begins
begun-iff zero f v = (λ m. absurd (mathlib.Core.List.Memᴰ.not-nil m), λ p. absurd (not-suc-le-zero p.2))
begun-iff (suc a) f v = (
  λ m. ⊎_elim
      (λ (k : Memᴰ v (each_begun a f)). let p = (begun-iff a f v).0 k in (p.0, p.1, omega (arith, p.2), p.3, p.4))
      (λ (k : Memᴰ v (begun a (f a))). let p = mathlib.Core.List.Memᴰ.of_map (λ (w : List ℕ). a ∷ w) (f a) k in (a, p.0, omega arith, sym p.2, p.1))
      (mathlib.Core.List.Memᴰ.append_cases (each_begun a f) m),
  λ p. go (λ q. (begun-iff a f v).1 q) p.0 p.1 p.2 p.3 p.4 (dec_lt p.0 a),
)
  where
    go : (Begins a f v → Memᴰ v (each_begun a f)) → (l : ℕ) (w : List ℕ) → l < suc a → v ≡ l ∷ w → Memᴰ w (f l) → Dec (l < a) → Memᴰ v (each_begun a f ++ begun a (f a))
    go ih l w h e k (yes d) = mathlib.Core.List.Memᴰ.append_left _ (ih (l, w, d, e, k))
    go ih l w h e k (no d) = let s : l ≡ a = omega arith in mathlib.Core.List.Memᴰ.append_right (each_begun a f) (mathlib.Core.List.Memᴰ.cast (e ∙ ap (λ (i : ℕ). i ∷ w) s) (mathlib.Core.List.Memᴰ.map (λ (w : List ℕ). a ∷ w) (rw s at k)))

begun-apart : (l : ℕ) (ws : List (List ℕ)) → Apart ws → Apart (begun l ws)
begun-apart l [] d = tt
begun-apart l (w ∷ ws) d = (λ m. let p = mathlib.Core.List.Memᴰ.of_map (λ (w : List ℕ). l ∷ w) ws m in d.0 (mathlib.Core.List.Memᴰ.cast (sym (tail_is p.2)) p.1), begun-apart l ws d.1)

apart-append : {A : Type 0} (l m : List A) → Apart l → Apart m → ((x : A) → Memᴰ x l → ¬ Memᴰ x m) → Apart (l ++ m)
apart-append [] m d e h = e
apart-append {A} (x ∷ l) m d e h = (
  λ k. ⊎_elim (λ (i : Memᴰ x l). d.0 i) (λ (i : Memᴰ x m). h x (mathlib.Core.List.Memᴰ.head refl) i) (mathlib.Core.List.Memᴰ.append_cases l k),
  apart-append l m d.1 e (λ y k. h y (mathlib.Core.List.Memᴰ.tail k)),
)

each-apart : (a : ℕ) (f : ℕ → List (List ℕ)) → ((l : ℕ) → Apart (f l)) → Apart (each_begun a f)
unfolding each_begun Begins
each-apart zero f d = tt
each-apart (suc a) f d = apart-append (each_begun a f) (begun a (f a)) (each-apart a f d) (begun-apart a (f a) (d a)) (λ v k m.
    let p = (begun-iff a f v).0 k in
    let q = mathlib.Core.List.Memᴰ.of_map (λ (w : List ℕ). a ∷ w) (f a) m in
    omega (arith, p.2, head-is (sym p.3 ∙ sym q.2)))

each-length : (a : ℕ) (f : ℕ → List (List ℕ)) (g : ℕ → ℕ) → ((l : ℕ) → length (f l) ≡ g l) → length (each_begun a f) ≡ sum_below a g
unfolding each_begun sum_below
each-length zero f g h = refl
each-length (suc a) f g h = length-append (each_begun a f) _ ∙ ap₂ (λ (i j : ℕ). i + j) (each-length a f g h) (length-map (f a) (λ (w : List ℕ). a ∷ w) ∙ h a)

-- ---- the words themselves, over any states
module _ {Q : Type 0} (δ : Q → ℕ → Q) (a : ℕ) (test : Q → Bool) where
  -- a word of n letters that leads from q to a state that passes
  abbrev Passing : ℕ → Q → List ℕ → Type 0
  Passing n q w = (length w ≡ n) × Passes δ a q test w

  -- the empty word, if the test passes
  empty_if : Bool → List (List ℕ)
  empty_if true = [] ∷ []
  empty_if false = []

  words_from : ℕ → Q → List (List ℕ)
  words_from zero q = empty_if (test q)
  words_from (suc n) q = each_begun a (λ l. words_from n (δ q l))

  from-length : (n : ℕ) (q : Q) → length (words_from n q) ≡ many_from δ a test n q
  unfolding words_from many_from empty_if
  from-length zero q = go (test q)
    where
      go : (b : Bool) → length (empty_if b) ≡ cond b 1 0
      go true = refl
      go false = refl
  from-length (suc n) q = each-length a (λ l. words_from n (δ q l)) (λ l. many_from δ a test n (δ q l)) (λ l. from-length n (δ q l))

  from-apart : (n : ℕ) (q : Q) → Apart (words_from n q)
  unfolding words_from empty_if
  from-apart zero q = go (test q)
    where
      go : (b : Bool) → Apart (empty_if b)
      go true = (λ m. mathlib.Core.List.Memᴰ.not-nil m, tt)
      go false = tt
  from-apart (suc n) q = each-apart a (λ l. words_from n (δ q l)) (λ l. from-apart n (δ q l))

  from-iff : (n : ℕ) (q : Q) (w : List ℕ) → Memᴰ w (words_from n q) ↔ Passing n q w
  unfolding words_from empty_if leads Begins
  from-iff zero q w = go (test q) refl
    where
      empty : (w : List ℕ) → length w ≡ 0 → w ≡ []
      empty [] e = refl
      empty (x ∷ w) e = absurd (omega arith)

      go : (b : Bool) → test q ≡ b → Memᴰ w (empty_if b) ↔ Passing zero q w
      go true e = (
        λ m. rw (mathlib.Core.List.Memᴰ.eq_of_singleton m) (refl, (tt, rw e tt)),
        λ p. mathlib.Core.List.Memᴰ.head (empty w p.0),
      )
      go false e = (
        λ m. absurd (mathlib.Core.List.Memᴰ.not-nil m),
        λ p. let t = p.1.1 in absurd (rw (empty w p.0, leads, e) at t),
      )
  from-iff (suc n) q [] = (λ m. let p = (begun-iff a _ []).0 m in let z : ◌≡◌ {A = ℕ} 0 1 = cc in absurd (omega arith), λ p. absurd (omega (arith, p.0)))
  from-iff (suc n) q (l ∷ w) = (
    λ m. let p = (begun-iff a (λ i. words_from n (δ q i)) (l ∷ w)).0 m in
        let i : l ≡ p.0 = head-is p.3 in
        let s : w ≡ p.1 = tail_is p.3 in
        let k : Memᴰ w (words_from n (δ q l)) = subst (λ (j : ℕ). Memᴰ w (words_from n (δ q j))) (sym i) (mathlib.Core.List.Memᴰ.cast s p.4) in
        let r = (from-iff n (δ q l) w).0 k in
        (omega (arith, r.0), ((omega (arith, p.2), r.1.0), r.1.1)),
    λ p. (begun-iff a (λ i. words_from n (δ q i)) (l ∷ w)).1 (l, w, p.1.0.0, refl, (from-iff n (δ q l) w).1 (omega (arith, p.0), (p.1.0.1, p.1.1))),
  )

  -- THE LAW of counting words by their length
  many-counts : (n : ℕ) (q : Q) → Exactly (Passing n q) (many_from δ a test n q)
  many-counts n q = record { list = words_from n q; apart = from-apart n q; each = from-iff n q; many = from-length n q }

-- ---- of an automaton
module _ (x : Automaton) (L : ℕ) where
  module _ (fits : length (configurations x L) ≤ L) where
    accepting : (w : List ℕ) → T (accepts_set x L (leads (behind x L) (live_set x L []) w)) ↔ Accepts x w
    accepting w = Led-accepts x L fits [] w

    -- the number is that of the words of n letters that x accepts
    pub accepted-counts : (n : ℕ) → Exactly (AcceptedOf x n) (accepted_many x L n)
    unfolding accepted_many
    accepted-counts n = counts_same (λ w. (
      λ p. record { long = p.0; over = p.1.0; accepts = (accepting w).0 p.1.1 },
      λ a. (a.long, (a.over, (accepting w).1 a.accepts)),
    )) (many-counts (behind x L) (letters x) (accepts_set x L) n (live_set x L []))

    -- the number is that of the words of n letters that x does not accept
    pub rejected-counts : (n : ℕ) → Exactly (RejectedOf x n) (rejected_many x L n)
    unfolding rejected_many
    rejected-counts n = counts_same (λ w. let b = accepts_set x L (leads (behind x L) (live_set x L []) w) in (
      λ p. record { long = p.0; over = p.1.0; rejects = λ a. (not_iff b).0 p.1.1 ((accepting w).1 a) },
      λ r. (r.long, (r.over, (not_iff b).1 (λ t. r.rejects ((accepting w).0 t)))),
    )) (many-counts (behind x L) (letters x) (λ S. not (accepts_set x L S)) n (live_set x L []))

  -- both together are all words of n letters
  pub both-many : (n : ℕ) → accepted_many x L n + rejected_many x L n ≡ letters x ^ n
  unfolding accepted_many rejected_many
  both-many n = many-both (behind x L) (letters x) (accepts_set x L) n (live_set x L [])

  -- with no letters there is one word of length 0, and none of any other
  pub letterless : letters x ≡ 0 → (accepted_many x L 0 + rejected_many x L 0 ≡ 1) × ((n : ℕ) → accepted_many x L (suc n) + rejected_many x L (suc n) ≡ 0)
  letterless e = (
    both-many 0 ∙ pow-zero (letters x),
    λ n. both-many (suc n) ∙ pow-suc (letters x) n ∙ ap (λ (i : ℕ). letters x ^ n * i) e ∙ mul-zero (letters x ^ n),
  )
