-- ReachLaws: the numbered configurations are exactly those that runs reach, and refusal 21 says what it should.
use mathlib.Core.Path.{refl}
use mathlib.Core.Logic.{◌↔◌}
use Prim.Native.Nat.{◌<◌, ◌≤◌, ℕ}
use lib.ListN.{length}
use mathlib.Core.List.Memᴰ
use mathlib.Core.List.{List, [], ◌++◌, ◌∷◌}
use mathlib.Core.Option.{Option, none, some}
use native.Mathlib.Decide.{dec_lt}
use native.Mathlib.Omega.{arith}
use Rattle.automata.specs.Automaton.{Automaton, Configuration, Produces, Reachable, Run, silent, spell, start, stay}
use Rattle.automata.specs.Counting.{Exactly, MoreThan}
use Rattle.automata.specs.Exploration.{Reach, first, later}
use Rattle.automata.specs.Performing.{Move, successors}
use Rattle.automata.specs.Unfolding.{configurations, same_configuration, targets_of}
use Rattle.automata.proofs.CountingLaws.{counts_same, more_same, not_more}
use Rattle.automata.proofs.ExplorationLaws.{walk-counts, walk_more}
use Rattle.automata.proofs.PerformingLaws.{successors-iff}
use Rattle.automata.proofs.RunLaws.{joined}
use Rattle.automata.proofs.UnfoldingLaws.{same_configuration-iff}

module _ (x : Automaton) where
  one_more : {c d : Configuration} (α : Option ℕ) → Reachable x c → Produces x c α d → Reachable x d
  one_more none r m = record { word = r.word ++ []; run = joined r.run (silent m stay) }
  one_more (some l) r m = record { word = r.word ++ l ∷ []; run = joined r.run (spell m stay) }

  reach-run : {c : Configuration} → Reach (targets_of x) (start x ∷ []) c → Reachable x c
  unfolding targets_of
  reach-run (first m) = rw (Memᴰ.eq_of_singleton m) (record { word = []; run = stay })
  reach-run (later {x = c} {y = d} r m) =
      let p = Memᴰ.of_map (λ (m : Move). m.to) (successors x c) m in
      let e : Reachable x p.0.to = one_more p.0.letter (reach-run r) ((successors-iff x c p.0.letter p.0.to).0 p.1) in
      rw (← p.2) e

  run-reach : {c d : Configuration} {w : List ℕ} → Reach (targets_of x) (start x ∷ []) c → Run (Produces x) c w d → Reach (targets_of x) (start x ∷ []) d
  unfolding targets_of
  run-reach r stay = r
  run-reach {c} r (silent {y = d} m q) = run-reach (later r (Memᴰ.map (λ (m : Move). m.to) ((successors-iff x c none d).1 m))) q
  run-reach {c} r (spell {y = d} {a = l} m q) = run-reach (later r (Memᴰ.map (λ (m : Move). m.to) ((successors-iff x c (some l) d).1 m))) q

  reach-iff : (c : Configuration) → Reach (targets_of x) (start x ∷ []) c ↔ Reachable x c
  reach-iff c = (reach-run, λ r. run-reach (first (Memᴰ.head refl)) r.run)

  -- within the limit each configuration that a run reaches has one number
  pub configurations-count : (L : ℕ) → length (configurations x L) ≤ L → Exactly (Reachable x) (length (configurations x L))
  unfolding configurations
  configurations-count L h = counts_same reach-iff (walk-counts same_configuration same_configuration-iff (targets_of x) (start x ∷ []) (λ y m. absurd (Memᴰ.not-nil m), tt) L h)

  -- refusal 21: the walk goes beyond the limit just if runs reach more configurations
  pub configurations-more : (L : ℕ) → (L < length (configurations x L)) ↔ MoreThan (Reachable x) L
  unfolding configurations
  configurations-more L = (
    λ h. more_same reach-iff (walk_more same_configuration same_configuration-iff (targets_of x) (start x ∷ []) (λ y m. absurd (Memᴰ.not-nil m), tt) L h),
    λ m. go m (dec_lt L (length (configurations x L))),
  )
    where
      go : MoreThan (Reachable x) L → Dec (L < length (configurations x L)) → L < length (configurations x L)
      go m (yes h) = h
      go m (no h) = absurd (not_more (configurations-count L (omega arith)) (omega arith) m)
