-- PairSets: pairs are pairs of sets of configurations; numbers and lists of tests are only how they are written.
use mathlib.Core.Path.{◌∙◌, ◌≡◌, ap, refl, subst, sym}
use mathlib.Core.Logic.{◌↔◌}
use Prim.Native.Nat.{◌<◌, ◌≤◌, suc, ℕ}
use lib.Dec.{T, eqb}
use lib.ListN.{get_elem?, length}
use mathlib.Core.Bool.{Bool, false, true}
use mathlib.Core.List.{List, [], ◌∷◌}
use mathlib.Core.Option.{some-injective, some}
use native.Mathlib.Omega.{arith}
use Rattle.automata.specs.Automaton.{Automaton, Configuration, Produces, Run, start}
use Rattle.automata.specs.Live.{Moves, by_letter, epsilon_closure, in?, live, live_from, table}
use Rattle.automata.specs.Pairs.{Pair, pair_of}
use Rattle.automata.specs.Unfolding.{configurations, plain_arcs, same_configuration}
use Rattle.automata.proofs.ListLaws.{get_elem?-lt, get_elem?-some}
use Rattle.automata.proofs.LiveLaws.{length-by_letter, length-rounds, length-table, live-iff}
use Rattle.automata.proofs.NumberLaws.{one_number}
use Rattle.automata.proofs.UnfoldingLaws.{distinct, first-configuration, runs_from, runs_to, same_configuration-iff, within}

abbrev pub LiveAt : Automaton → List ℕ → Configuration → Type 0
LiveAt b w c = Run (Produces b) (start b) w c

-- lists of tests are the same if their members are
tests-ext : (S R : List Bool) → length S ≡ length R → ((j : ℕ) → j < length S → T (in? S j) ↔ T (in? R j)) → S ≡ R
tests-ext [] [] l f = refl
tests-ext [] (y ∷ R) l f = absurd (omega arith)
tests-ext (x ∷ S) [] l f = absurd (omega arith)
tests-ext (x ∷ S) (y ∷ R) l f =
    let e = bit x y (f 0 (omega arith)) in
    let r = tests-ext S R (omega arith) (λ j h. f (suc j) (omega arith)) in
    λ i. e i ∷ r i
  where
    bit : (x y : Bool) → T x ↔ T y → x ≡ y
    bit true true g = refl
    bit true false g = absurd (g.0 tt)
    bit false true g = absurd (g.1 tt)
    bit false false g = refl

module _ (b : Automaton) (L : ℕ) (fits : length (configurations b L) ≤ L) where
  abbrev all : List Configuration
  all = configurations b L

  pos : 0 < length all
  pos = get_elem?-lt all 0 (first-configuration b L fits)

  -- a configuration is live just if its number is
  pub live-configuration : (w : List ℕ) (j : ℕ) (c : Configuration) → get_elem? all j ≡ some c → T (in? (live (length all) (plain_arcs b L) w) j) ↔ LiveAt b w c
  live-configuration w j c p = (
    λ t. let r = runs_from b L fits (first-configuration b L fits) ((live-iff (length all) (plain_arcs b L) (within b L fits) pos w j).0 t) in
        subst (λ (d : Configuration). LiveAt b w d) (some-injective r.0 c (sym r.1 ∙ p)) r.2,
    λ l. let r = runs_to b L fits 0 (first-configuration b L fits) l in
        let e : r.0 ≡ j = one_number same_configuration same_configuration-iff all r.0 j (distinct b L fits) r.1 p in
        (live-iff (length all) (plain_arcs b L) (within b L fits) pos w j).1 (subst (λ (k : ℕ). Run (Moves (plain_arcs b L)) 0 w k) e r.2),
  )

  live-length : (S : List Bool) (w : List ℕ) → length S ≡ length all → length (live_from (length all) (plain_arcs b L) S w) ≡ length all
  unfolding live_from
  live-length S [] h = h
  live-length S (x ∷ w) h = live-length (by_letter (length all) (plain_arcs b L) S x) w (length-by_letter (length all) (plain_arcs b L) (within b L fits) S x)

  live-long : (w : List ℕ) → length (live (length all) (plain_arcs b L) w) ≡ length all
  unfolding live epsilon_closure
  live-long w = live-length (epsilon_closure (length all) (plain_arcs b L) (table (length all) (eqb 0))) w (length-rounds (length all) (plain_arcs b L) (within b L fits) (length all) (table (length all) (eqb 0)) (length-table (length all) (eqb 0)))

  -- the same numbers are live just if the same configurations are
  pub same_live : (w v : List ℕ) → (live (length all) (plain_arcs b L) w ≡ live (length all) (plain_arcs b L) v) ↔ ((c : Configuration) → LiveAt b w c ↔ LiveAt b v c)
  same_live w v = (
    λ e c. (λ l. over w v e c l, λ l. over v w (sym e) c l),
    λ f. tests-ext (live (length all) (plain_arcs b L) w) (live (length all) (plain_arcs b L) v) (live-long w ∙ sym (live-long v)) (λ j h.
        let c = get_elem?-some all j (omega (arith, live-long w)) in
        (λ t. (live-configuration v j c.0 c.1).1 ((f c.0).0 ((live-configuration w j c.0 c.1).0 t)), λ t. (live-configuration w j c.0 c.1).1 ((f c.0).1 ((live-configuration v j c.0 c.1).0 t)))),
  )
    where
      over : (w v : List ℕ) → live (length all) (plain_arcs b L) w ≡ live (length all) (plain_arcs b L) v → (c : Configuration) → LiveAt b w c → LiveAt b v c
      over w v e c l =
          let r = runs_to b L fits 0 (first-configuration b L fits) l in
          (live-configuration v r.0 c r.1).0 (subst (λ (S : List Bool). T (in? S r.0)) e ((live-configuration w r.0 c r.1).1 l))

-- two words have the same pair just if the same configurations are live, in each automaton
pub same-pair : (x y : Automaton) (L : ℕ) → length (configurations x L) ≤ L → length (configurations y L) ≤ L → (w v : List ℕ)
    → (pair_of x y L w ≡ pair_of x y L v) ↔ (((c : Configuration) → LiveAt x w c ↔ LiveAt x v c) × ((c : Configuration) → LiveAt y w c ↔ LiveAt y v c))
unfolding pair_of
same-pair x y L f₁ f₂ w v = (
  λ e. ((same_live x L f₁ w v).0 (ap (λ (p : Pair). p.left) e), (same_live y L f₂ w v).0 (ap (λ (p : Pair). p.right) e)),
  λ g. let x = (same_live x L f₁ w v).1 g.0 in let y = (same_live y L f₂ w v).1 g.1 in λ i. record { left = x i; right = y i },
)
