-- MembershipLaws: what is computed of a word of bytes is whether the automaton accepts it and how many configurations are live.
use mathlib.Core.Path.{◌∙◌, ◌≡◌, ap, refl, subst, sym}
use mathlib.Core.Logic.{◌↔◌, ⊎_elim}
use Prim.Native.Nat.{◌<◌, ◌≤◌, suc, zero, ℕ}
use lib.Dec.{T}
use lib.ListN.{get_elem?, length}
use mathlib.Core.Bool.{Bool, false, true}
use mathlib.Core.List.Memᴰ
use mathlib.Core.List.{List, Memᴰ, [], ◌∷◌}
use mathlib.Core.Option.{Option, some-injective, none, some}
use native.Mathlib.Omega.{arith}
use Rattle.automata.specs.Automaton.{Accepts, Automaton, Configuration, Produces, Run, start}
use Rattle.automata.specs.Counting.{Apart, Exactly}
use Rattle.automata.specs.Letters.{keys}
use Rattle.automata.specs.Live.{count, in?, live}
use Rattle.automata.specs.Unfolding.{accepted, accepted_bytes, configurations, live_count, live_set, plain_arcs, spelled_or}
use Rattle.automata.specs.Words.{Language, LiveAfter, Spelled, spelling}
use Rattle.automata.proofs.CountingLaws.{counts_same}
use Rattle.automata.proofs.ListLaws.{at_mem, get_elem?-lt, none-some}
use Rattle.automata.proofs.LiveLaws.{length-live, live-iff}
use Rattle.automata.proofs.UnfoldingLaws.{accepted-iff, all_apart, first-configuration, runs_from, runs_to, within}
use Rattle.automata.proofs.WordLaws.{spelling-iff}

picked : {A : Type 0} → List Bool → List A → List A
picked [] l = []
picked (x ∷ S) [] = []
picked (true ∷ S) (c ∷ l) = c ∷ picked S l
picked (false ∷ S) (c ∷ l) = picked S l

picked_iff : {A : Type 0} (S : List Bool) (l : List A) (c : A) → Memᴰ c (picked S l) ↔ ((j : ℕ) × T (in? S j) × (get_elem? l j ≡ some c))
unfolding picked
picked_iff [] l c = (λ m. absurd (Memᴰ.not-nil m), λ s. absurd s.1)
picked_iff (x ∷ S) [] c = (λ m. absurd (Memᴰ.not-nil m), λ s. none-some refl s.2)
picked_iff {A} (true ∷ S) (d ∷ l) c = (
  λ m. ⊎_elim (λ (e : c ≡ d). (0, tt, ap some (sym e))) (λ (m : Memᴰ c (picked S l)). let s = (picked_iff S l c).0 m in (suc s.0, s.1, s.2)) (Memᴰ.cases_cons m),
  λ s. go (picked_iff S l c).1 s.0 s.1 s.2,
)
  where
    go : (((j : ℕ) × T (in? S j) × (get_elem? l j ≡ some c)) → Memᴰ c (picked S l)) → (j : ℕ) → T (in? (true ∷ S) j) → get_elem? (d ∷ l) j ≡ some c → Memᴰ c (d ∷ picked S l)
    go ih zero t e = Memᴰ.head (sym (some-injective d c e))
    go ih (suc j) t e = Memᴰ.tail (ih (j, t, e))
picked_iff {A} (false ∷ S) (d ∷ l) c =
    (λ m. let s = (picked_iff S l c).0 m in (suc s.0, s.1, s.2), λ s. go (picked_iff S l c).1 s.0 s.1 s.2)
  where
    go : (((j : ℕ) × T (in? S j) × (get_elem? l j ≡ some c)) → Memᴰ c (picked S l)) → (j : ℕ) → T (in? (false ∷ S) j) → get_elem? (d ∷ l) j ≡ some c → Memᴰ c (picked S l)
    go ih zero t e = absurd t
    go ih (suc j) t e = ih (j, t, e)

picked_apart : {A : Type 0} (S : List Bool) (l : List A) → Apart l → Apart (picked S l)
unfolding picked
picked_apart [] l d = tt
picked_apart (x ∷ S) [] d = tt
picked_apart (true ∷ S) (c ∷ l) d = (λ m. let s = (picked_iff S l c).0 m in d.0 (at_mem l s.0 s.2), picked_apart S l d.1)
picked_apart (false ∷ S) (c ∷ l) d = picked_apart S l d.1

picked_length : {A : Type 0} (S : List Bool) (l : List A) → length S ≡ length l → length (picked S l) ≡ count S
unfolding picked count
picked_length [] l h = refl
picked_length (x ∷ S) [] h = absurd (omega arith)
picked_length (true ∷ S) (c ∷ l) h = ap suc (picked_length S l (omega arith))
picked_length (false ∷ S) (c ∷ l) h = picked_length S l (omega arith)

-- THE LAW. The members of the live set of the unfolded automaton count the ends of the runs
pub live-counts : (b : Automaton) (L : ℕ) → length (configurations b L) ≤ L → (w : List ℕ)
    → Exactly (λ (c : Configuration). Run (Produces b) (start b) w c) (count (live_set b L w))
unfolding live_set
live-counts b L fits w = record {
  list = picked S all;
  apart = picked_apart S all (all_apart b L fits);
  many = picked_length S all (length-live (length all) (plain_arcs b L) (within b L fits) w);
  each = λ c. (
    λ m. let s = (picked_iff S all c).0 m in
        let r = runs_from b L fits (first-configuration b L fits) ((live-iff (length all) (plain_arcs b L) (within b L fits) pos w s.0).0 s.1) in
        let e : r.0 ≡ c = some-injective r.0 c (sym r.1 ∙ s.2) in
        rw (← e) r.2,
    λ r. let q = runs_to b L fits 0 (first-configuration b L fits) r in
        (picked_iff S all c).1 (q.0, (live-iff (length all) (plain_arcs b L) (within b L fits) pos w q.0).1 q.2, q.1),
  );
}
  where
    all : List Configuration
    all = configurations b L

    S : List Bool
    S = live (length (configurations b L)) (plain_arcs b L) w

    pos : 0 < length all
    pos = get_elem?-lt all 0 (first-configuration b L fits)

-- ---- words of bytes
module _ (x : Automaton) (apart : Apart (keys x.alphabet)) (L : ℕ) (fits : length (configurations x L) ≤ L) where
  -- what is computed of the spelling decides what holds of the word that the bytes stand for
  spelled-iff : (f : List ℕ → Bool) (P : List ℕ → Type 0) → ((w : List ℕ) → T (f w) ↔ P w) → (s : List ℕ) → T (spelled_or false f (spelling x.alphabet s)) ↔ Spelled x.alphabet P s
  spelled-iff f P g s = go (spelling x.alphabet s) refl
    where
      go : (o : Option (List ℕ)) → spelling x.alphabet s ≡ o → T (spelled_or false f o) ↔ Spelled x.alphabet P s
      go none e = (λ t. absurd t, λ p. none-some e ((spelling-iff x.alphabet apart s p.word).1 p.spells))
      go (some w) e = (
        λ t. record { word = w; spells = (spelling-iff x.alphabet apart s w).0 e; holds = (g w).0 t },
        λ p. let q : p.word ≡ w = some-injective p.word w (sym ((spelling-iff x.alphabet apart s p.word).1 p.spells) ∙ e) in
            (g w).1 (subst P q p.holds),
      )

  -- THE LAW of membership: a word is accepted just if a run spells it and ends in a final state
  pub accepted_bytes-iff : (s : List ℕ) → T (accepted_bytes x L s) ↔ Language x s
  unfolding accepted_bytes
  accepted_bytes-iff s = spelled-iff (accepted x L) (Accepts x) (accepted-iff x L fits) s

  -- and the number live is that of the configurations that runs spelling it end in
  pub live_count-counts : (s : List ℕ) → Exactly (LiveAfter x s) (live_count x L s)
  unfolding live_count
  live_count-counts s = go (spelling x.alphabet s) refl
    where
      go : (o : Option (List ℕ)) → spelling x.alphabet s ≡ o → Exactly (LiveAfter x s) (spelled_or 0 (λ w. count (live_set x L w)) o)
      go none e = record {
        list = [];
        apart = tt;
        many = refl;
        each = λ c. (λ k. absurd (Memᴰ.not-nil k), λ p. none-some e ((spelling-iff x.alphabet apart s p.word).1 p.spells));
      }
      go (some w) e = counts_same
          (λ c. (
            λ r. record { word = w; spells = (spelling-iff x.alphabet apart s w).0 e; holds = r },
            λ p. let q : p.word ≡ w = some-injective p.word w (sym ((spelling-iff x.alphabet apart s p.word).1 p.spells) ∙ e) in
                subst (λ (v : List ℕ). Run (Produces x) (start x) v c) q p.holds,
          ))
          (live-counts x L fits w)
