-- PerformingLaws: what is computed of operations and arcs is what document 003 relates.
use mathlib.Core.Path.{◌≡◌, ap, refl, subst}
use mathlib.Core.Logic.{◌↔◌}
use Prim.Native.Nat.{ℕ}
use lib.Dec.{T, eqb, eqb_refl, eqb→eq, ltb→lt, lt→ltb}
use lib.ListN.{length, length-set}
use mathlib.Core.List.{List, Memᴰ, [], ◌∷◌}
use mathlib.Core.Option.{Option, some-injective, bind-eq-some_iff, map-eq-some_iff, none, some}
use native.Mathlib.Omega.{arith}
use Rattle.automata.specs.Automaton.{Arc, Automaton, Configuration, Does, DoesAll, Op, Produces, reads, writes}
use Rattle.automata.specs.Performing.{Move, act, along, holds, perform, successors}
use Rattle.automata.proofs.ListLaws.{collect-iff, eqb-iff, get_elem?-lt, get_elem?-set-other, get_elem?-set-same, only-iff, set-unique}

holds-iff : (o : Option ℕ) (γ : ℕ) → T (holds o γ) ↔ (o ≡ some γ)
holds-iff none γ = (λ t. absurd t, λ e. let z : ◌≡◌ {A = ℕ} 0 1 = cc in absurd (omega arith))
holds-iff (some x) γ = (λ t. ap some (eqb→eq x γ t), λ e. subst (λ y. T (eqb x y)) (some-injective x γ e) (eqb_refl x))

pub act-iff : (o : Op) (u v : List ℕ) → (act o u ≡ some v) ↔ Does o u v
unfolding act
act-iff (reads i γ) u v = simp (only-iff, holds-iff) (λ p. (p.1, p.0), λ d. (d.1, d.0))
act-iff (writes i γ) u v = simp only-iff (
  λ p. subst (λ (x : List ℕ). Does (writes i γ) u x) p.1 (length-set u i γ, get_elem?-set-same u i γ (ltb→lt _ _ p.0), λ k n. get_elem?-set-other u i k γ n),
  λ d. (lt→ltb i (length u) (rw (← d.0) (get_elem?-lt v i d.1)), set-unique u v i γ d.0 d.1 d.2),
)

pub perform-iff : (ops : List Op) (u v : List ℕ) → (perform ops u ≡ some v) ↔ DoesAll ops u v
unfolding perform
perform-iff [] u v = (λ e. some-injective u v e, λ e. ap some e)
perform-iff (o ∷ os) u v = (
  λ e. let s = (bind-eq-some_iff (act o u) (λ x. perform os x)).0 e in (s.0, (act-iff o u s.0).0 s.1, (perform-iff os s.0 v).0 s.2),
  λ d. (bind-eq-some_iff (act o u) (λ x. perform os x)).1 (d.0, (act-iff o u d.0).1 d.1, (perform-iff os d.0 v).1 d.2),
)

pub along-iff : (c : Configuration) (a : Arc) (m : Move) → (along c a ≡ some m) ↔ ((a.source ≡ c.state) × (a.letter ≡ m.letter) × (a.target ≡ m.to.state) × DoesAll a.ops c.contents m.to.contents)
unfolding along
along-iff c a m = simp (bind-eq-some_iff, only-iff, map-eq-some_iff, perform-iff, eqb-iff) (
  λ s. let q = s.2.2 in (s.1.0, ap (λ (m : Move). m.letter) q, ap (λ (m : Move). m.to.state) q, rw s.1.1 (rw (ap (λ (m : Move). m.to.contents) q) at s.2.1)),
  λ p. (c.contents, (p.0, refl), (m.to.contents, p.3, λ i. record { letter = p.1 i; to = record { state = p.2 i; contents = m.to.contents } })),
)

pub successors-iff : (b : Automaton) (c : Configuration) (α : Option ℕ) (d : Configuration) → Memᴰ (record { letter = α; to = d }) (successors b c) ↔ Produces b c α d
unfolding successors
successors-iff b c α d = simp (collect-iff, along-iff) (
  λ s. record { arc = s.0; listed = s.1; leaves = s.2.0; spells = s.2.1; enters = s.2.2; does = s.2.3 },
  λ p. (p.arc, p.listed, (p.leaves, p.spells, p.enters, p.does)),
)
