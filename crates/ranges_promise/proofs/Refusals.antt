-- Refusals: the tests of a word with ranges decide the conditions of its refusals, and ranges that pass the test have letters and
-- are those of the bytes.
use mathlib.Core.Path.{◌≡◌, ap, refl, subst}
use mathlib.Core.Logic.{◌↔◌, ◌⊎◌, inl, inr, ⊎_elim}
use mathlib.Core.Bool.{Bool, ◌||◌, not}
use mathlib.Core.List.Memᴰ
use mathlib.Core.List.{List, Memᴰ, [], ◌∷◌}
use Prim.Native.Nat.{ℕ, ◌%◌, ◌<◌, ◌≤◌}
use native.Mathlib.Omega.{arith}
use lib.Dec.{T, ltb}
use lib.ListN.{length}
use Rattle.automata.specs.Automaton.{letters}
use Rattle.automata.specs.Lists.{Each}
use Rattle.automata.proofs.Laws.{iff-trans, mem_each, not_iff, or_iff}
use Rattle.fillings.specs.Fillings.{Range, from_to}
use Rattle.fillings.proofs.Laws.{filling_many}
use Rattle.format.specs.Decoding.{automaton_of}
use Rattle.file_laws.proofs.Laws.{Decide, at_least, decided, fault_decided, less-decided, less-iff, reach-decided}
use Rattle.ranges_promise.specs.Promised.{BadRanges, bytes_of, conditions}
use Rattle.ranges_promise.specs.RangeAnswers.{bad_ranges, limit_refusals, many_sets, ranges_of, refusals}

-- ---- 35
-- a place is none: its low is above its high, or its high is not below a
abbrev Bad : (a : ℕ) → Range → Type 0
Bad a r = (r.high < r.low) ⊎ (a ≤ r.high)

not-less-iff : (m n : ℕ) → T (not (ltb m n)) ↔ (n ≤ m)
not-less-iff m n = iff-trans (not_iff (ltb m n)) (λ f. at_least m n (λ h. f ((less-iff m n).1 h)), λ h t. let l = (less-iff m n).0 t in omega arith)

place-iff : (a low high : ℕ) (later : Bool) → T (ltb high low || (not (ltb high a) || later)) ↔ (Bad a (from_to low high) ⊎ T later)
place-iff a low high later = iff-trans (or_iff (ltb high low) (not (ltb high a) || later)) (
  ⊎_elim (λ t. inl (inl ((less-iff high low).0 t))) (λ t. ⊎_elim (λ u. inl (inr ((not-less-iff high a).0 u))) inr ((or_iff (not (ltb high a)) later).0 t)),
  ⊎_elim
      (⊎_elim (λ h. inl ((less-iff high low).1 h)) (λ h. inr ((or_iff (not (ltb high a)) later).1 (inl ((not-less-iff high a).1 h)))))
      (λ t. inr ((or_iff (not (ltb high a)) later).1 (inr t))),
)

-- of a place and those behind it: the place is none, or the others are bad
Bad-cases : (a low high : ℕ) (s : List ℕ) → (Bad a (from_to low high) ⊎ BadRanges a s) ↔ BadRanges a (low ∷ high ∷ s)
unfolding ranges_of
Bad-cases a low high s = (
  ⊎_elim (λ b. inr (from_to low high, Memᴰ.head refl, b)) (⊎_elim (λ odd. inl (omega arith)) (λ h. inr (h.0, Memᴰ.tail h.1, h.2))),
  ⊎_elim
      (λ odd. inr (inl (omega arith)))
      (λ h. ⊎_elim (λ (e : h.0 ≡ from_to low high). inl (subst (Bad a) e h.2)) (λ (m : Memᴰ h.0 (ranges_of s)). inr (inr (h.0, m, h.2))) (Memᴰ.cases_cons h.1)),
)

Bad-iff : (a : ℕ) (bytes : List ℕ) → T (bad_ranges a bytes) ↔ BadRanges a bytes
unfolding bad_ranges ranges_of
Bad-iff a [] = (λ t. absurd t, ⊎_elim (λ odd. absurd (omega arith)) (λ h. absurd (Memᴰ.not-nil h.1)))
Bad-iff a (low ∷ []) = (λ t. inl refl, λ h. tt)
Bad-iff a (low ∷ high ∷ s) =
    let ih = Bad-iff a s in
    let f : (Bad a (from_to low high) ⊎ T (bad_ranges a s)) ↔ (Bad a (from_to low high) ⊎ BadRanges a s) = (⊎_elim inl (λ t. inr (ih.0 t)), ⊎_elim inl (λ h. inr (ih.1 h))) in
    iff-trans (place-iff a low high (bad_ranges a s)) (iff-trans f (Bad-cases a low high s))

-- ranges that are not refused have letters
pub sound-ranges : (a : ℕ) (bytes : List ℕ) → ¬ BadRanges a bytes → Each (λ r. r.low ≤ r.high) (ranges_of bytes)
sound-ranges a bytes h = mem_each (ranges_of bytes) (λ r m. at_least r.high r.low (λ l. h (inr (r, m, inl l))))

-- with no byte left over the places, written down, are the bytes
pub bytes-again : (bytes : List ℕ) → ¬ (length bytes % 2 ≡ 1) → bytes_of (ranges_of bytes) ≡ bytes
unfolding ranges_of
bytes-again [] h = refl
bytes-again (low ∷ []) h = absurd (h refl)
bytes-again (low ∷ high ∷ s) h = ap (λ (l : List ℕ). low ∷ high ∷ l) (bytes-again s (λ e. h (omega (arith, e))))

-- ---- each test of the call decides its condition
pub refusals-decide : (file bytes : List ℕ) (words : ℕ) → Decide (refusals 256 512 file bytes words) (conditions file bytes words)
unfolding refusals limit_refusals many_sets
refusals-decide file bytes words = (
  less-decided words 8192 _ _,
  (
    fault_decided file _,
    (
      decided _ _ _ (Bad-iff (letters (automaton_of file)) bytes),
      (
        reach-decided (automaton_of file) 256 _ _,
        (decided _ _ _ (filling_many (automaton_of file) 256 512 (ranges_of bytes) (omega arith)), tt),
      ),
    ),
  ),
)
