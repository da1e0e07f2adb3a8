-- PlainArcLaws: the plain arcs of a configuration are its passing arcs, in the order of the file, repeats kept.
use mathlib.Core.Path.{◌∙◌, ◌≡◌, ap, refl}
use mathlib.Core.Logic.{◌≢◌}
use Prim.Native.Nat.{◌+◌, ◌<◌, suc, zero, ℕ}
use lib.Dec.{eqb}
use lib.ListN.{get_elem?}
use mathlib.Core.Bool.{Bool, false, true}
use mathlib.Core.List.{List, [], ◌++◌, ◌∷◌, append-nil, map}
use mathlib.Core.Option.{some-injective, some}
use native.Mathlib.Nat.{add-zero}
use native.Mathlib.Omega.{arith}
use borrow.Author.Tests.{eq-eqb, ne_eqb}
use Rattle.automata.specs.Automaton.{Automaton, Configuration}
use Rattle.automata.specs.Exploration.{number}
use Rattle.automata.specs.Lists.{collect}
use Rattle.automata.specs.Live.{PlainArc}
use Rattle.automata.specs.Performing.{Move, successors}
use Rattle.automata.specs.Unfolding.{configurations, leaving, plain_all, plain_arcs, plain_from, same_configuration}
use Rattle.automata.proofs.ListLaws.{none-some}

-- a plain arc of configuration number i: a passing arc's letter, and the number of the configuration that it leads to
abbrev pub plain_arc : List Configuration → ℕ → Move → PlainArc
plain_arc all i m = record { source = i; letter = m.letter; target = number same_configuration m.to all }

plain_from-map : (all : List Configuration) (i : ℕ) (ms : List Move) → plain_from all i ms ≡ map (plain_arc all i) ms
unfolding plain_from
plain_from-map all i [] = refl
plain_from-map all i (m ∷ ms) = ap (λ (l : List PlainArc). plain_arc all i m ∷ l) (plain_from-map all i ms)

leaving-append : (i : ℕ) (l r : List PlainArc) → leaving i (l ++ r) ≡ leaving i l ++ leaving i r
unfolding leaving collect
leaving-append i [] r = refl
leaving-append i (a ∷ l) r = go (leaving-append i l r) (eqb a.source i) refl
  where
    go : leaving i (l ++ r) ≡ leaving i l ++ leaving i r → (t : Bool) → eqb a.source i ≡ t → leaving i ((a ∷ l) ++ r) ≡ leaving i (a ∷ l) ++ leaving i r
    go ih true e = rw e (ap (λ (m : List PlainArc). a ∷ m) ih)
    go ih false e = rw e ih

-- those of configuration i all leave it, and no others do
leaving-own : (all : List Configuration) (i : ℕ) (ms : List Move) → leaving i (plain_from all i ms) ≡ plain_from all i ms
unfolding leaving collect plain_from
leaving-own all i [] = refl
leaving-own all i (m ∷ ms) = rw (eq-eqb i i refl) (ap (λ (l : List PlainArc). plain_arc all i m ∷ l) (leaving-own all i ms))

leaving-none : (all : List Configuration) (i k : ℕ) (ms : List Move) → k ≢ i → leaving i (plain_from all k ms) ≡ []
unfolding leaving collect plain_from
leaving-none all i k [] h = refl
leaving-none all i k (m ∷ ms) h = rw (ne_eqb k i h) (leaving-none all i k ms h)

module _ (x : Automaton) (all : List Configuration) where
  leaving-low : (k i : ℕ) (cs : List Configuration) → k < i → leaving k (plain_all x all i cs) ≡ []
  unfolding leaving collect plain_all
  leaving-low k i [] h = refl
  leaving-low k i (c ∷ cs) h =
      leaving-append k (plain_from all i (successors x c)) (plain_all x all (suc i) cs)
      ∙ ap (λ (l : List PlainArc). l ++ leaving k (plain_all x all (suc i) cs)) (leaving-none all k i (successors x c) (λ e. absurd (omega (arith, e))))
      ∙ leaving-low k (suc i) cs (omega arith)

  leaving-at : (i : ℕ) (cs : List Configuration) (n : ℕ) {c : Configuration} → get_elem? cs n ≡ some c → leaving (i + n) (plain_all x all i cs) ≡ plain_from all (i + n) (successors x c)
  unfolding plain_all
  leaving-at i [] n e = none-some refl e
  leaving-at i (d ∷ cs) zero {c} e =
      rw (add-zero i, some-injective d c e)
      (leaving-append i (plain_from all i (successors x c)) (plain_all x all (suc i) cs)
      ∙ ap (λ (l : List PlainArc). leaving i (plain_from all i (successors x c)) ++ l) (leaving-low i (suc i) cs (omega arith))
      ∙ append-nil _
      ∙ leaving-own all i (successors x c))
  leaving-at i (d ∷ cs) (suc n) {c} e =
      leaving-append (i + suc n) (plain_from all i (successors x d)) (plain_all x all (suc i) cs)
      ∙ ap (λ (l : List PlainArc). l ++ leaving (i + suc n) (plain_all x all (suc i) cs)) (leaving-none all (i + suc n) i (successors x d) (λ q. absurd (omega (arith, q))))
      ∙ (let s : i + suc n ≡ suc i + n = omega arith in rw s (leaving-at (suc i) cs n e))

-- THE LAW. Of the plain arcs those that leave configuration number i are its passing arcs, one for one and in their order
pub leaving-passing : (x : Automaton) (L i : ℕ) {c : Configuration} → get_elem? (configurations x L) i ≡ some c → leaving i (plain_arcs x L) ≡ map (plain_arc (configurations x L) i) (successors x c)
unfolding plain_arcs
leaving-passing x L i {c} e = (let z : 0 + i ≡ i = omega arith in rw z at (leaving-at x (configurations x L) 0 (configurations x L) i e)) ∙ plain_from-map (configurations x L) i (successors x c)
