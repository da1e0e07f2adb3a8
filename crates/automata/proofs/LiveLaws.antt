-- LiveLaws: the live set of a word holds exactly the ends of the runs that spell it.
use mathlib.Core.Path.{◌∙◌, ◌≡◌, ap, refl, sym}
use mathlib.Core.Logic.{◌↔◌, ◌⊎◌, inl, inr, ⊎_elim}
use Prim.Native.Nat.{◌<◌, ◌≤◌, suc, suc-le-suc, zero, zero-le, ℕ}
use lib.Dec.{T, eqb, eqb→eq}
use lib.ListN.{length}
use mathlib.Core.Bool.{Bool, false, true}
use mathlib.Core.List.Memᴰ
use mathlib.Core.List.{List, Memᴰ, [], ◌∷◌}
use mathlib.Core.Option.{Option, none, some}
use native.Mathlib.Nat.{le_of_suc-le-suc, not-suc-le-zero}
use native.Mathlib.Omega.{arith}
use Rattle.automata.specs.Automaton.{Run, silent, spell, stay}
use Rattle.automata.specs.Live.{ε_closed, Moves, PlainArc, by_letter, count, epsilon_closure, hit, in?, live, live_from, once, rounds, step, table}
use Rattle.automata.proofs.ListLaws.{and-iff, any-iff, eqb-iff, or_iff, same_letter-iff}
use Rattle.automata.proofs.RunLaws.{joined}

pub length-table : (k : ℕ) (f : ℕ → Bool) → length (table k f) ≡ k
unfolding table
length-table zero f = refl
length-table (suc k) f = ap suc (length-table k (λ i. f (suc i)))

pub in_table : (k : ℕ) (f : ℕ → Bool) (j : ℕ) → T (in? (table k f) j) ↔ ((j < k) × T (f j))
unfolding table
in_table zero f j = (λ t. absurd t, λ p. absurd (not-suc-le-zero p.0))
in_table (suc k) f zero = (λ t. (suc-le-suc zero-le, t), λ p. p.1)
in_table (suc k) f (suc j) = (λ t. let p = (in_table k (λ i. f (suc i)) j).0 t in (suc-le-suc p.0, p.1), λ p. (in_table k (λ i. f (suc i)) j).1 (le_of_suc-le-suc p.0, p.1))

-- ---- counting
pub count-le : (S : List Bool) → count S ≤ length S
unfolding count
count-le [] = zero-le
count-le (true ∷ S) = suc-le-suc (count-le S)
count-le (false ∷ S) = omega (arith, count-le S)

pub grows : (S R : List Bool) → length S ≡ length R → ((j : ℕ) → T (in? S j) → T (in? R j)) → (S ≡ R) ⊎ (count S < count R)
unfolding count
grows [] [] n h = inl refl
grows [] (y ∷ R) n h = absurd (omega arith)
grows (x ∷ S) [] n h = absurd (omega arith)
grows (true ∷ S) (true ∷ R) n h = ⊎_elim (λ (e : S ≡ R). inl (rw e)) (λ (l : count S < count R). inr (suc-le-suc l)) (grows S R (omega arith) (λ j. h (suc j)))
grows (true ∷ S) (false ∷ R) n h = absurd (h 0 tt)
grows (false ∷ S) (true ∷ R) n h = inr (⊎_elim (λ (e : S ≡ R). omega (arith, ap count e)) (λ (l : count S < count R). omega arith) (grows S R (omega arith) (λ j. h (suc j))))
grows (false ∷ S) (false ∷ R) n h = ⊎_elim (λ (e : S ≡ R). inl (rw e)) (λ (l : count S < count R). inr l) (grows S R (omega arith) (λ j. h (suc j)))

pub hit-iff : (arcs : List PlainArc) (α : Option ℕ) (S : List Bool) (j : ℕ) → T (hit arcs α S j) ↔ ((i : ℕ) × T (in? S i) × Moves arcs i α j)
unfolding hit
hit-iff arcs α S j = simp (any-iff, and-iff, same_letter-iff, eqb-iff) (
  λ s. (s.0.source, s.2.1, Memᴰ.cast (λ i. record { source = s.0.source; letter = (sym s.2.0.0) i; target = (sym s.2.0.1) i }) s.1),
  λ s. (record { source = s.0; letter = α; target = j }, s.2, ((refl, refl), s.1)),
)

-- a run of empty moves does not leave a closed set
pub closed_run : {arcs : List PlainArc} {i j : ℕ} (S : List Bool) → ε_closed arcs S → T (in? S i) → Run (Moves arcs) i [] j → T (in? S j)
closed_run S cl t stay = t
closed_run S cl t (silent m r) = closed_run S cl (cl _ _ t m) r

In-lt : (S : List Bool) (j : ℕ) → T (in? S j) → j < length S
In-lt [] j t = absurd t
In-lt (x ∷ S) zero t = suc-le-suc zero-le
In-lt (x ∷ S) (suc j) t = suc-le-suc (In-lt S j t)

module _ (k : ℕ) (arcs : List PlainArc) (within : (a : PlainArc) → Memᴰ a arcs → a.target < k) where
  pub step-iff : (α : Option ℕ) (S : List Bool) (j : ℕ) → T (in? (step k arcs α S) j) ↔ ((i : ℕ) × T (in? S i) × Moves arcs i α j)
  unfolding step
  step-iff α S j = simp (in_table, hit-iff) (λ s. s.1, λ s. (within _ s.2, s))

  once-iff : (S : List Bool) (j : ℕ) → length S ≡ k → T (in? (once k arcs S) j) ↔ (T (in? S j) ⊎ ((i : ℕ) × T (in? S i) × Moves arcs i none j))
  unfolding once
  once-iff S j n = simp (in_table, or_iff) (
    λ s. ⊎_elim (λ (t : T (in? S j)). inl t) (λ (t : T (hit arcs none S j)). inr ((hit-iff arcs none S j).0 t)) s.1,
    λ s. ⊎_elim (λ (t : T (in? S j)). (omega (arith, In-lt S j t), inl t)) (λ (p : (i : ℕ) × T (in? S i) × Moves arcs i none j). (within _ p.2, inr ((hit-iff arcs none S j).1 p))) s,
  )

  pub length-rounds : (n : ℕ) (S : List Bool) → length S ≡ k → length (rounds k arcs n S) ≡ k
  unfolding rounds
  length-rounds zero S h = h
  length-rounds (suc n) S h = length-table k _

  -- a round keeps the set as it is, or makes it larger
  rise : (S : List Bool) → length S ≡ k → (S ≡ once k arcs S) ⊎ (count S < count (once k arcs S))
  unfolding once rounds
  rise S h = grows S (once k arcs S) (h ∙ sym (length-rounds 1 S h)) (λ j t. (once-iff S j h).1 (inl t))

  pub stable : (n : ℕ) (S : List Bool) → length S ≡ k → (once k arcs (rounds k arcs n S) ≡ rounds k arcs n S) ⊎ (n < count (rounds k arcs (suc n) S))
  unfolding rounds
  stable zero S h = ⊎_elim (λ (e : S ≡ once k arcs S). inl (sym e)) (λ (l : count S < count (once k arcs S)). inr (omega arith)) (rise S h)
  stable (suc n) S h = ⊎_elim
      (λ (e : once k arcs (rounds k arcs n S) ≡ rounds k arcs n S). inl (ap (once k arcs) e))
      (λ (l : n < count (rounds k arcs (suc n) S)). ⊎_elim
      (λ (e : rounds k arcs (suc n) S ≡ once k arcs (rounds k arcs (suc n) S)). inl (sym e))
      (λ (l₂ : count (rounds k arcs (suc n) S) < count (once k arcs (rounds k arcs (suc n) S))). inr (omega arith))
      (rise (rounds k arcs (suc n) S) (length-rounds (suc n) S h)))
      (stable n S h)

  pub epsilon_closure-stable : (S : List Bool) → length S ≡ k → once k arcs (epsilon_closure k arcs S) ≡ epsilon_closure k arcs S
  unfolding epsilon_closure
  epsilon_closure-stable S h = ⊎_elim (λ (e : once k arcs (rounds k arcs k S) ≡ rounds k arcs k S). e) (λ (l : k < count (rounds k arcs (suc k) S)). absurd (omega (arith, count-le (rounds k arcs (suc k) S), length-rounds (suc k) S h))) (stable k S h)

  rounds-keep : (n : ℕ) (S : List Bool) (j : ℕ) → length S ≡ k → T (in? S j) → T (in? (rounds k arcs n S) j)
  unfolding rounds
  rounds-keep zero S j h t = t
  rounds-keep (suc n) S j h t = (once-iff (rounds k arcs n S) j (length-rounds n S h)).1 (inl (rounds-keep n S j h t))

  rounds-from : (n : ℕ) (S : List Bool) (j : ℕ) → length S ≡ k → T (in? (rounds k arcs n S) j) → (i : ℕ) × T (in? S i) × Run (Moves arcs) i [] j
  unfolding rounds
  rounds-from zero S j h t = (j, t, stay)
  rounds-from (suc n) S j h t = ⊎_elim (rounds-from n S j h)
      (λ p. let q = rounds-from n S p.0 h p.1 in (q.0, q.1, joined q.2 (silent p.2 stay)))
      ((once-iff (rounds k arcs n S) j (length-rounds n S h)).0 t)

  pub epsilon_closure-closed : (S : List Bool) → length S ≡ k → ε_closed arcs (epsilon_closure k arcs S)
  unfolding epsilon_closure
  epsilon_closure-closed S h i j t m = rw (epsilon_closure-stable S h) at ((once-iff (epsilon_closure k arcs S) j (length-rounds k S h)).1 (inr (i, t, m)))

  length-step : (α : Option ℕ) (S : List Bool) → length (step k arcs α S) ≡ k
  unfolding step
  length-step α S = length-table k _

  pub live-complete : {i j : ℕ} {w : List ℕ} (S : List Bool) → ε_closed arcs S → T (in? S i) → Run (Moves arcs) i w j → T (in? (live_from k arcs S w) j)
  unfolding live_from by_letter
  live-complete S cl t stay = t
  live-complete S cl t (silent m r) = live-complete S cl (cl _ _ t m) r
  live-complete S cl t (spell {a = a} m r) =
      let R = step k arcs (some a) S in
      let h = length-step (some a) S in
      live-complete (by_letter k arcs S a) (epsilon_closure-closed R h) (unfold epsilon_closure in rounds-keep k R _ h ((step-iff (some a) S _).1 (_, t, m))) r

  pub live-sound : (w : List ℕ) (S : List Bool) (j : ℕ) → T (in? (live_from k arcs S w) j) → (i : ℕ) × T (in? S i) × Run (Moves arcs) i w j
  unfolding live_from by_letter
  live-sound [] S j t = (j, t, stay)
  live-sound (a ∷ w) S j t =
      let p = live-sound w (by_letter k arcs S a) j t in
      let q = rounds-from k (step k arcs (some a) S) p.0 (length-step (some a) S) p.1 in
      let r = (step-iff (some a) S q.0).0 q.1 in
      (r.0, r.1, spell r.2 (joined q.2 p.2))

  length-live_from : (w : List ℕ) (S : List Bool) → length S ≡ k → length (live_from k arcs S w) ≡ k
  unfolding live_from by_letter epsilon_closure
  length-live_from [] S h = h
  length-live_from (a ∷ w) S h = length-live_from w (by_letter k arcs S a) (length-rounds k (step k arcs (some a) S) (length-step (some a) S))

  pub length-live : (w : List ℕ) → length (live k arcs w) ≡ k
  unfolding live epsilon_closure
  length-live w = length-live_from w (epsilon_closure k arcs (table k (eqb 0))) (length-rounds k (table k (eqb 0)) (length-table k (eqb 0)))

  -- THE LAW. A configuration is live after w just if a run that spells w ends in it
  pub live-iff : 0 < k → (w : List ℕ) (j : ℕ) → T (in? (live k arcs w) j) ↔ Run (Moves arcs) 0 w j
  unfolding live epsilon_closure
  live-iff pos w j = (to, from)
    where
      S : List Bool
      S = table k (eqb 0)

      to : T (in? (live k arcs w) j) → Run (Moves arcs) 0 w j
      to t = let p = live-sound w (epsilon_closure k arcs S) j t in
          let q = rounds-from k S p.0 (length-table k (eqb 0)) p.1 in
          let e = eqb→eq 0 q.0 ((in_table k (eqb 0) q.0).0 q.1).1 in
          rw e (joined q.2 p.2)

      from : Run (Moves arcs) 0 w j → T (in? (live k arcs w) j)
      from r = live-complete (epsilon_closure k arcs S) (epsilon_closure-closed S (length-table k (eqb 0))) (rounds-keep k S 0 (length-table k (eqb 0)) ((in_table k (eqb 0) 0).1 (pos, tt))) r

  -- the closure: what a run of empty moves reaches
  pub epsilon_closure-iff : (S : List Bool) (j : ℕ) → length S ≡ k → T (in? (epsilon_closure k arcs S) j) ↔ ((i : ℕ) × T (in? S i) × Run (Moves arcs) i [] j)
  unfolding epsilon_closure live_from
  epsilon_closure-iff S j h = (
    rounds-from k S j h,
    λ p. live-complete (epsilon_closure k arcs S) (epsilon_closure-closed S h) (rounds-keep k S p.0 h p.1) p.2,
  )

  pub length-by_letter : (S : List Bool) (a : ℕ) → length (by_letter k arcs S a) ≡ k
  unfolding by_letter epsilon_closure
  length-by_letter S a = length-rounds k (step k arcs (some a) S) (length-step (some a) S)

  -- one letter: a move by it, and then a run of empty moves
  pub by_letter-iff : (S : List Bool) (a j : ℕ) → T (in? (by_letter k arcs S a) j) ↔ ((i m : ℕ) × T (in? S i) × Moves arcs i (some a) m × Run (Moves arcs) m [] j)
  unfolding by_letter
  by_letter-iff S a j = (
    λ t. let p = (epsilon_closure-iff (step k arcs (some a) S) j (length-step (some a) S)).0 t in
        let q = (step-iff (some a) S p.0).0 p.1 in
        (q.0, p.0, q.1, q.2, p.2),
    λ p. (epsilon_closure-iff (step k arcs (some a) S) j (length-step (some a) S)).1 (p.1, (step-iff (some a) S p.1).1 (p.0, p.2, p.3), p.4),
  )

  pub by_letter-closed : (S : List Bool) (a : ℕ) → ε_closed arcs (by_letter k arcs S a)
  unfolding by_letter
  by_letter-closed S a = epsilon_closure-closed (step k arcs (some a) S) (length-step (some a) S)

  -- a run from a number below k ends below k
  pub run-below : {i j : ℕ} {w : List ℕ} → i < k → Run (Moves arcs) i w j → j < k
  run-below h stay = h
  run-below h (silent m r) = run-below (within _ m) r
  run-below h (spell m r) = run-below (within _ m) r
