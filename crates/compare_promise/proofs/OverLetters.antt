-- OverLetters: the automata of two valid files over the letters of both are well-formed, accept the words that they accept by their own
-- letters, and have the same configurations live behind each word.
use mathlib.Core.Path.{◌≡◌, refl, subst, sym}
use mathlib.Core.Logic.{◌↔◌, inl, inr, ⊎_elim}
use mathlib.Core.List.Memᴰ
use mathlib.Core.List.{List, [], ◌∷◌}
use Prim.Native.Nat.{ℕ, ◌≤◌}
use lib.Dec.{eqb}
use lib.ListN.{length}
use Rattle.automata.specs.Automaton.{Automaton, Configuration, Produces, Run, SameEnds, WellFormed, start}
use Rattle.automata.specs.Counting.{Apart}
use Rattle.automata.specs.Letters.{key, keys}
use Rattle.automata.specs.Unfolding.{configurations}
use Rattle.automata.specs.Words.{Language, Listed, LiveAfter, SameLetters, Spells, places}
use Rattle.automata.proofs.Laws.{eqb-iff, iff-trans, number_at, pairing, spells-places}
use Rattle.relettering.specs.Relettering.{relettered, with_letters}
use Rattle.relettering.proofs.Laws.{Inside, first-inside, joined-apart, new-inside, relettered-formed, relettered-language, relettered-live, second-inside}
use Rattle.format.specs.Decoding.{automaton_of}
use Rattle.format.specs.Refusals.{fault_of}
use Rattle.file_laws.proofs.Laws.{no_fault, valid-automaton}
use Rattle.compare_promise.specs.Promised.{Either, SameLive, letters_in, over_all, pair_in}

well_formed : (file : List ℕ) → fault_of file ≡ 0 → WellFormed (automaton_of file)
well_formed file z = let v = no_fault file z in (valid-automaton file v.0 v.1).0

-- a word in the bytes of a list is spelled by the places of its letters
listed-spells : (all s : List ℕ) → Listed all s → Spells all s (places all s)
listed-spells all [] h = tt
listed-spells all (byte ∷ s) h = (number_at eqb eqb-iff (Memᴰ.map key h.0), listed-spells all s h.1)

-- the runs that spell it are those by these places
live-ends : (x : Automaton) → Apart (keys x.alphabet) → (s : List ℕ) → Listed x.alphabet s → (c : Configuration) → Run (Produces x) (start x) (places x.alphabet s) c ↔ LiveAfter x s c
live-ends x apart s h c = (
  λ r. record { word = places x.alphabet s; spells = listed-spells x.alphabet s h; holds = r },
  λ t. subst (λ (w : List ℕ). Run (Produces x) (start x) w c) (sym (spells-places x.alphabet apart s t.word t.spells)) t.holds,
)

iff-back : {A B : Type 0} → A ↔ B → B ↔ A
iff-back f = (f.1, f.0)

module _ (first second : List ℕ) (z₁ : fault_of first ≡ 0) (z₂ : fault_of second ≡ 0) where
  abbrev x : Automaton
  x = automaton_of first

  abbrev y : Automaton
  y = automaton_of second

  abbrev all : List ℕ
  all = letters_in first second

  abbrev x' : Automaton
  x' = over_all first second first

  abbrev y' : Automaton
  y' = over_all first second second

  inside₁ : Inside x.alphabet all
  inside₁ = first-inside x.alphabet y.alphabet

  inside₂ : Inside y.alphabet all
  inside₂ = second-inside x.alphabet y.alphabet

  pub letters_apart : Apart (keys all)
  letters_apart = joined-apart x.alphabet y.alphabet (well_formed first z₁).letters_apart (well_formed second z₂).letters_apart

  pub formed₁ : WellFormed x'
  formed₁ = relettered-formed x (places all x.alphabet) all (new-inside x.alphabet all inside₁) (well_formed first z₁) letters_apart

  pub formed₂ : WellFormed y'
  formed₂ = relettered-formed y (places all y.alphabet) all (new-inside y.alphabet all inside₂) (well_formed second z₂) letters_apart

  -- ---- words
  pub language₁ : (s : List ℕ) → Language x' s ↔ Language x s
  language₁ = relettered-language x (well_formed first z₁) all inside₁

  pub language₂ : (s : List ℕ) → Language y' s ↔ Language y s
  language₂ = relettered-language y (well_formed second z₂) all inside₂

  pub Either-own : (s : List ℕ) → Either (Language x' s) (Language y' s) ↔ Either (Language x s) (Language y s)
  Either-own s =
      let f = language₁ s in
      let g = language₂ s in (
        ⊎_elim (λ q. inl (f.0 q.0, λ l. q.1 (g.1 l))) (λ q. inr (g.0 q.0, λ l. q.1 (f.1 l))),
        ⊎_elim (λ q. inl (f.1 q.0, λ l. q.1 (g.0 l))) (λ q. inr (g.1 q.0, λ l. q.1 (f.0 l))),
      )

  -- ---- live sets
  same_live : (u u' : Automaton) → Apart (keys u'.alphabet) → ((s : List ℕ) (c : Configuration) → LiveAfter u' s c ↔ LiveAfter u s c) → (v w : List ℕ) → Listed u'.alphabet v → Listed u'.alphabet w
      → SameEnds u' (places u'.alphabet v) (places u'.alphabet w) ↔ SameLive u v w
  same_live u u' apart live v w h k =
      let f : (s : List ℕ) → Listed u'.alphabet s → (c : Configuration) → Run (Produces u') (start u') (places u'.alphabet s) c ↔ LiveAfter u s c = λ s l c. iff-trans (live-ends u' apart s l c) (live s c) in (
        λ e c. iff-trans (iff-back (f v h c)) (iff-trans (e c) (f w k c)),
        λ e c. iff-trans (f v h c) (iff-trans (e c) (iff-back (f w k c))),
      )

  pub pairs-by_runs : length (configurations x' 256) ≤ 256 → length (configurations y' 256) ≤ 256 → (v w : List ℕ) → Listed all v → Listed all w
      → (pair_in first second v ≡ pair_in first second w) ↔ (SameLive x v w × SameLive y v w)
  unfolding with_letters
  pairs-by_runs few₁ few₂ v w h k =
      let f = same_live x x' letters_apart (relettered-live x (well_formed first z₁) all inside₁) v w h k in
      let g = same_live y y' letters_apart (relettered-live y (well_formed second z₂) all inside₂) v w h k in
      iff-trans (pairing x' y' 256 few₁ few₂ (places all v) (places all w)) (λ e. (f.0 e.0, g.0 e.1), λ e. (f.1 e.0, g.1 e.1))

-- the two have the same letters
pub shared-letters : (all : List ℕ) (x y : Automaton) → SameLetters (relettered all x) (relettered all y)
unfolding with_letters
shared-letters all x y = refl
