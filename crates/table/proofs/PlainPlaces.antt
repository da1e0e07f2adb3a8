-- PlainPlaces: the plain arcs of a configuration stand together: those of source s stand from where s starts to where s + 1 does.
use mathlib.Core.Path.{◌∙◌, ◌≡◌, ap, refl, sym}
use mathlib.Core.Logic.{◌↔◌, ◌⊎◌, inl, inr, ⊎_elim}
use mathlib.Core.List.{List, [], ◌++◌, ◌∷◌, append-nil}
use mathlib.Core.Option.{some-injective, some}
use Prim.Native.Nat.{◌+◌, ◌-◌, ◌<◌, ◌≤◌, suc, zero, zero-le, ℕ}
use native.Mathlib.Decide.{dec_lt}
use native.Mathlib.Omega.{arith}
use lib.ListN.{get_elem?, length, length-append, take}
use Rattle.automata.specs.Automaton.{Automaton, Configuration}
use Rattle.automata.specs.Live.{PlainArc}
use Rattle.automata.specs.Performing.{Move, successors}
use Rattle.automata.specs.Unfolding.{plain_all, plain_from}
use Rattle.automata.proofs.Laws.{at_back, at_front, get_elem?-lt, none-some}

-- a place in l ++ r is one in l, or one in r behind l
append_place : {A : Type 0} (l r : List A) (n : ℕ) {a : A} → get_elem? (l ++ r) n ≡ some a → (get_elem? l n ≡ some a) ⊎ ((length l ≤ n) × (get_elem? r (n - length l) ≡ some a))
append_place l r n {a} e = go (dec_lt n (length l))
  where
    go : Dec (n < length l) → (get_elem? l n ≡ some a) ⊎ ((length l ≤ n) × (get_elem? r (n - length l) ≡ some a))
    go (yes h) = inl (sym (at_front l r n h) ∙ e)
    go (no h) = let q : length l + (n - length l) ≡ n = omega arith in inr (omega arith, sym (at_back l r (n - length l)) ∙ ap (get_elem? (l ++ r)) q ∙ e)

module _ (x : Automaton) (all : List Configuration) where
  from-source : (i : ℕ) (ms : List Move) (n : ℕ) {a : PlainArc} → get_elem? (plain_from all i ms) n ≡ some a → a.source ≡ i
  unfolding plain_from
  from-source i [] n e = none-some refl e
  from-source i (m ∷ ms) zero {a} e = ap (λ (b : PlainArc). b.source) (sym (some-injective _ a e))
  from-source i (m ∷ ms) (suc n) e = from-source i ms n e

  -- how many plain arcs leave the first s of the configurations cs, the first of which has the number i
  abbrev pub before : ℕ → List Configuration → ℕ → ℕ
  before i cs s = length (plain_all x all i (take s cs))

  pub before-le : (i : ℕ) (cs : List Configuration) (s : ℕ) → before i cs s ≤ length (plain_all x all i cs)
  unfolding plain_all
  before-le i cs zero = zero-le
  before-le i [] (suc s) = zero-le
  before-le i (c ∷ cs) (suc s) = simp length-append (omega (arith, before-le (suc i) cs s))

  pub before-rises : (i : ℕ) (cs : List Configuration) (s : ℕ) → before i cs s ≤ before i cs (suc s)
  unfolding plain_all
  before-rises i cs zero = zero-le
  before-rises i [] (suc s) = zero-le
  before-rises i (c ∷ cs) (suc s) = simp length-append (omega (arith, before-rises (suc i) cs s))

  low : (i : ℕ) (cs : List Configuration) (n : ℕ) {a : PlainArc} → get_elem? (plain_all x all i cs) n ≡ some a → i ≤ a.source
  unfolding plain_all
  low i [] n e = none-some refl e
  low i (c ∷ cs) n e = ⊎_elim
      (λ f. omega (arith, from-source i (successors x c) n f))
      (λ f. omega (arith, low (suc i) cs (n - length (plain_from all i (successors x c))) f.1))
      (append_place (plain_from all i (successors x c)) (plain_all x all (suc i) cs) n e)

  -- THE LAW. The plain arc at place n leaves configuration i + s just if n is from where the arcs of s start to before where those
  -- of the next one do
  pub source-at : (i : ℕ) (cs : List Configuration) (s n : ℕ) {a : PlainArc} → get_elem? (plain_all x all i cs) n ≡ some a → ((before i cs s ≤ n) × (n < before i cs (suc s))) ↔ (a.source ≡ i + s)
  unfolding plain_all
  source-at i [] s n e = none-some refl e
  source-at i (c ∷ cs) s n {a} e = ⊎_elim (λ f. front s f) (λ f. back s f.0 f.1 (λ t. source-at (suc i) cs t (n - length F) f.1)) (append_place F (plain_all x all (suc i) cs) n e)
    where
      F : List PlainArc
      F = plain_from all i (successors x c)

      Here : ℕ → Type 0
      Here s = ((before i (c ∷ cs) s ≤ n) × (n < before i (c ∷ cs) (suc s))) ↔ (a.source ≡ i + s)

      front : (s : ℕ) → get_elem? F n ≡ some a → Here s
      front zero f = (λ p. omega (arith, from-source i (successors x c) n f), λ q. (zero-le, rw append-nil (get_elem?-lt F n f)))
      front (suc s) f = (λ p. absurd (omega (arith, get_elem?-lt F n f, length-append F (plain_all x all (suc i) (take s cs)), p.0)), λ q. absurd (omega (arith, from-source i (successors x c) n f)))

      back : (s : ℕ) → length F ≤ n → get_elem? (plain_all x all (suc i) cs) (n - length F) ≡ some a
          → ((t : ℕ) → ((before (suc i) cs t ≤ n - length F) × (n - length F < before (suc i) cs (suc t))) ↔ (a.source ≡ suc i + t)) → Here s
      back zero h f ih = (λ p. absurd (omega (arith, rw append-nil at p.1)), λ q. absurd (omega (arith, low (suc i) cs (n - length F) f)))
      back (suc s) h f ih =
          let u = length-append F (plain_all x all (suc i) (take s cs)) in
          let v = length-append F (plain_all x all (suc i) (take (suc s) cs)) in (
            λ p. omega (arith, (ih s).0 (omega (arith, u, p.0), omega (arith, v, p.1))),
            λ q. let p = (ih s).1 (omega arith) in (omega (arith, u, p.0), omega (arith, v, p.1)),
          )
