-- UnfoldingLaws: the numbered configurations and plain arcs run as the automaton does (document 003, Theorem 1).
use mathlib.Core.Path.{◌∙◌, ◌≡◌, ap, refl, sym}
use mathlib.Core.Logic.{◌↔◌, ◌⊎◌, inl, inr, ⊎_elim}
use Prim.Native.Nat.{◌+◌, ◌<◌, ◌≤◌, suc, zero, ℕ}
use lib.Dec.{T, eqb}
use lib.ListN.{get_elem?, length}
use mathlib.Core.Bool.{Bool, ◌&&◌, false, true}
use mathlib.Core.List.Memᴰ
use mathlib.Core.List.{List, Memᴰ, [], ◌∷◌}
use mathlib.Core.Option.{Option, some-injective, some}
use native.Mathlib.Nat.{add-zero}
use native.Mathlib.Omega.{arith}
use Rattle.automata.specs.Automaton.{Accepts, Automaton, Configuration, Final, Produces, Run, silent, spell, start, stay}
use Rattle.automata.specs.Counting.{Apart}
use Rattle.automata.specs.Exploration.{Distinct, later, number}
use Rattle.automata.specs.Live.{Moves, PlainArc, in?, meets}
use Rattle.automata.specs.Performing.{Move, successors}
use Rattle.automata.specs.Unfolding.{accepted, configurations, final_set, plain_all, plain_arcs, plain_from, same_configuration, targets_of}
use Rattle.automata.proofs.ExplorationLaws.{distinct_apart, known-complete, known-distinct, known-first, known-sound}
use Rattle.automata.proofs.ListLaws.{and-iff, at_mem, eqb-iff, get_elem?-lt, none-some, or_iff, same_by-iff}
use Rattle.automata.proofs.LiveLaws.{live-iff}
use Rattle.automata.proofs.NumberLaws.{number_at}
use Rattle.automata.proofs.PerformingLaws.{successors-iff}

pub same_configuration-iff : (c d : Configuration) → T (same_configuration c d) ↔ (c ≡ d)
unfolding same_configuration
same_configuration-iff c d = simp (and-iff, eqb-iff, same_by-iff eqb eqb-iff)
    (λ p. λ i. record { state = p.0 i; contents = p.1 i }, λ e. (ap (λ (c : Configuration). c.state) e, ap (λ (c : Configuration). c.contents) e))

-- ---- the plain arcs
record Listed (b : Automaton) (all : List Configuration) (i : ℕ) (cs : List Configuration) (a : PlainArc) : Type 0 where
  place : ℕ
  config : Configuration
  found : get_elem? cs place ≡ some config
  numbered : a.source ≡ i + place
  move : Move
  listed : Memᴰ move (successors b config)
  spells : a.letter ≡ move.letter
  enters : a.target ≡ number same_configuration move.to all

plain_from-iff : (all : List Configuration) (i : ℕ) (ms : List Move) (a : PlainArc) → Memᴰ a (plain_from all i ms) ↔ ((m : Move) × Memᴰ m ms × (a.source ≡ i) × (a.letter ≡ m.letter) × (a.target ≡ number same_configuration m.to all))
unfolding plain_from
plain_from-iff all i [] a = (λ m. absurd (Memᴰ.not-nil m), λ s. absurd (Memᴰ.not-nil s.1))
plain_from-iff all i (m ∷ ms) a = (
  λ k. ⊎_elim (λ e. (m, Memᴰ.head refl, ap (λ (a : PlainArc). a.source) e, ap (λ (a : PlainArc). a.letter) e, ap (λ (a : PlainArc). a.target) e))
      (λ k. let s = (plain_from-iff all i ms a).0 k in (s.0, Memᴰ.tail s.1, s.2, s.3, s.4)) (Memᴰ.cases_cons k),
  λ s. ⊎_elim (λ (e : s.0 ≡ m). Memᴰ.head (λ t. record { source = s.2 t; letter = (s.3 ∙ ap (λ (m : Move). m.letter) e) t; target = (s.4 ∙ ap (λ (m : Move). number same_configuration m.to all) e) t }))
      (λ k. Memᴰ.tail ((plain_from-iff all i ms a).1 (s.0, k, s.2, s.3, s.4))) (Memᴰ.cases_cons s.1),
)

plain_all-to : (b : Automaton) (all : List Configuration) (i : ℕ) (cs : List Configuration) (a : PlainArc) → Memᴰ a (plain_all b all i cs) → Listed b all i cs a
unfolding plain_all
plain_all-to b all i [] a k = absurd (Memᴰ.not-nil k)
plain_all-to b all i (c ∷ cs) a k = ⊎_elim
    (λ k. let s = (plain_from-iff all i (successors b c) a).0 k in record { place = 0; config = c; found = refl; numbered = s.2 ∙ sym (add-zero i); move = s.0; listed = s.1; spells = s.3; enters = s.4 })
    (λ k. let s = plain_all-to b all (suc i) cs a k in record { place = suc s.place; config = s.config; found = s.found; numbered = omega (arith, s.numbered); move = s.move; listed = s.listed; spells = s.spells; enters = s.enters })
    (Memᴰ.append_cases (plain_from all i (successors b c)) k)

plain_all-from : (b : Automaton) (all : List Configuration) (i : ℕ) (cs : List Configuration) (n : ℕ) {c : Configuration} → get_elem? cs n ≡ some c → (m : Move) → Memᴰ m (successors b c)
    → Memᴰ (record { source = i + n; letter = m.letter; target = number same_configuration m.to all }) (plain_all b all i cs)
unfolding plain_all
plain_all-from b all i [] n p m k = none-some refl p
plain_all-from b all i (x ∷ cs) zero {c} p m k =
    Memᴰ.append_left (plain_all b all (suc i) cs)
    ((plain_from-iff all i (successors b x) _).1 (m, rw (some-injective x c p) k, add-zero i, refl, refl))
plain_all-from b all i (x ∷ cs) (suc n) p m k =
    Memᴰ.append_right (plain_from all i (successors b x))
    (Memᴰ.cast (λ t. record { source = e t; letter = m.letter; target = number same_configuration m.to all }) (plain_all-from b all (suc i) cs n p m k))
  where
    e : i + suc n ≡ suc i + n
    e = omega arith

pub In-iff : (F : List Bool) (j : ℕ) → T (in? F j) ↔ (get_elem? F j ≡ some true)
In-iff [] j = (λ t. absurd t, λ e. none-some refl e)
In-iff (true ∷ F) zero = (λ t. refl, λ e. tt)
In-iff (false ∷ F) zero = (λ t. absurd t, λ e. let z : ◌≡◌ {A = ℕ} 0 1 = cc in absurd (omega arith))
In-iff (x ∷ F) (suc j) = In-iff F j

pub meets-iff : (S F : List Bool) → T (meets S F) ↔ ((j : ℕ) × T (in? S j) × T (in? F j))
unfolding meets
meets-iff [] F = (λ t. absurd t, λ s. absurd s.1)
meets-iff (x ∷ S) [] = (λ t. absurd t, λ s. absurd s.2)
meets-iff (x ∷ S) (y ∷ F) = simp or_iff (
  λ s. ⊎_elim (λ t. let p = (and-iff x y).0 t in (0, p.0, p.1)) (λ t. let q = (meets-iff S F).0 t in (suc q.0, q.1, q.2)) s,
  λ s. back (meets-iff S F).1 s.0 s.1 s.2,
)
  where
    back : (((j : ℕ) × T (in? S j) × T (in? F j)) → T (meets S F)) → (j : ℕ) → T (in? (x ∷ S) j) → T (in? (y ∷ F) j) → T (x && y) ⊎ T (meets S F)
    back ih zero t r = inl ((and-iff x y).1 (t, r))
    back ih (suc j) t r = inr (ih (j, t, r))

pub final_set-at : (b : Automaton) (cs : List Configuration) (j : ℕ) → T (in? (final_set b cs) j) ↔ ((c : Configuration) × (get_elem? cs j ≡ some c) × Final b c.state)
unfolding final_set
final_set-at b [] j = (λ t. absurd t, λ s. none-some refl s.1)
final_set-at b (x ∷ cs) zero =
    (λ t. (x, refl, (In-iff b.finals x.state).0 t), λ s. (In-iff b.finals x.state).1 (rw (some-injective x s.0 s.1) s.2))
final_set-at b (x ∷ cs) (suc j) = final_set-at b cs j

same_refl : (c : Configuration) → T (same_configuration c c)
same_refl c = (same_configuration-iff c c).1 refl

module _ (b : Automaton) (L : ℕ) (fits : length (configurations b L) ≤ L) where
  abbrev all : List Configuration
  all = configurations b L

  pub distinct : Distinct same_configuration all
  unfolding configurations
  distinct = known-distinct same_configuration (targets_of b) (start b ∷ []) (λ y m. absurd (Memᴰ.not-nil m), tt) L

  pub all_apart : Apart all
  all_apart = distinct_apart same_configuration same_configuration-iff all distinct

  -- the target of a move is numbered
  inside : {c : Configuration} {α : Option ℕ} {d : Configuration} → Memᴰ c all → Produces b c α d → Memᴰ d all
  unfolding configurations targets_of
  inside {c} {α} {d} k p =
      known-complete same_configuration (targets_of b) (start b ∷ []) same_refl (λ x y. (same_configuration-iff x y).0) L fits
      (later (known-sound same_configuration (targets_of b) (start b ∷ []) L k) (Memᴰ.map (λ (m : Move). m.to) ((successors-iff b c α d).1 p)))

  pub moves-to : (i : ℕ) {c : Configuration} {α : Option ℕ} {d : Configuration} → get_elem? all i ≡ some c → Produces b c α d → (j : ℕ) × (get_elem? all j ≡ some d) × Moves (plain_arcs b L) i α j
  unfolding plain_arcs
  moves-to i {c} {α} {d} p r = (
    number same_configuration d all,
    number_at same_configuration same_configuration-iff (inside (at_mem all i p) r),
    Memᴰ.cast (λ t. record { source = e t; letter = α; target = number same_configuration d all }) (plain_all-from b all 0 all i p (record { letter = α; to = d }) ((successors-iff b c α d).1 r)),
  )
    where
      e : i ≡ 0 + i
      e = omega arith

  pub moves_from : (i : ℕ) {c : Configuration} {α : Option ℕ} {j : ℕ} → get_elem? all i ≡ some c → Moves (plain_arcs b L) i α j → (d : Configuration) × (get_elem? all j ≡ some d) × Produces b c α d
  unfolding plain_arcs
  moves_from i {c} {α} {j} p k = (m.to, placed, made)
    where
      l : Listed b all 0 all (record { source = i; letter = α; target = j })
      l = plain_all-to b all 0 all _ k

      m : Move
      m = l.move

      same-config : l.config ≡ c
      same-config = let e : l.place ≡ i = omega (arith, l.numbered) in some-injective l.config c (sym l.found ∙ (rw e p))

      made : Produces b c α m.to
      made = (successors-iff b c α m.to).0 (Memᴰ.cast (λ t. record { letter = l.spells t; to = m.to }) (rw same-config at l.listed))

      placed : get_elem? all j ≡ some m.to
      placed = ap (get_elem? all) l.enters ∙ number_at same_configuration same_configuration-iff (inside (at_mem all i p) made)

  pub runs_to : (i : ℕ) {c d : Configuration} {w : List ℕ} → get_elem? all i ≡ some c → Run (Produces b) c w d → (j : ℕ) × (get_elem? all j ≡ some d) × Run (Moves (plain_arcs b L)) i w j
  runs_to i p stay = (i, p, stay)
  runs_to i p (silent m r) = let s = moves-to i p m in let q = runs_to s.0 s.1 r in (q.0, q.1, silent s.2 q.2)
  runs_to i p (spell m r) = let s = moves-to i p m in let q = runs_to s.0 s.1 r in (q.0, q.1, spell s.2 q.2)

  pub runs_from : {c : Configuration} {i j : ℕ} {w : List ℕ} → get_elem? all i ≡ some c → Run (Moves (plain_arcs b L)) i w j → (d : Configuration) × (get_elem? all j ≡ some d) × Run (Produces b) c w d
  runs_from {c} {i} p stay = (c, p, stay)
  runs_from {c = c} {i = i} p (silent m r) = let s = moves_from i p m in let q = runs_from {c = s.0} s.1 r in (q.0, q.1, silent s.2 q.2)
  runs_from {c = c} {i = i} p (spell m r) = let s = moves_from i p m in let q = runs_from {c = s.0} s.1 r in (q.0, q.1, spell s.2 q.2)

  pub within : (a : PlainArc) → Memᴰ a (plain_arcs b L) → a.target < length all
  unfolding plain_arcs
  within a k =
      let l = plain_all-to b all 0 all a k in
      let d = inside (at_mem all l.place l.found) ((successors-iff b l.config l.move.letter l.move.to).0 l.listed) in
      rw l.enters (get_elem?-lt all _ (number_at same_configuration same_configuration-iff d))

  pub first-configuration : get_elem? all 0 ≡ some (start b)
  unfolding configurations
  first-configuration = known-first same_configuration (targets_of b) (start b ∷ []) L 0 refl

  -- THE LAW. To run the live sets of the unfolded automaton is to say what the automaton accepts
  pub accepted-iff : (w : List ℕ) → T (accepted b L w) ↔ Accepts b w
  unfolding accepted
  accepted-iff w = simp (meets-iff, final_set-at, live-iff (length all) (plain_arcs b L) within (get_elem?-lt all 0 first-configuration)) (
    λ s. let r = runs_from first-configuration s.1 in
        let e : r.0 ≡ s.2.0 = some-injective r.0 s.2.0 (sym r.1 ∙ s.2.1) in
        record { end = r.0; run = r.2; final = rw e s.2.2 },
    λ t. let r = runs_to 0 first-configuration t.run in (r.0, r.2, (t.end, r.1, t.final)),
  )
