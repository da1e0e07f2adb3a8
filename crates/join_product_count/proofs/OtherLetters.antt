-- OtherLetters: the letters of two lists matched: the place of a letter of one list in the other is that of the same letter, so the second
-- file's number of a letter of the first is found among the second's letters.
use mathlib.Core.Path.{◌≡◌, ◌∙◌, ap, refl, sym}
use mathlib.Core.Logic.{◌≢◌, ⊎_elim}
use mathlib.Core.Bool.{Bool, false, true}
use mathlib.Core.List.{List, [], ◌∷◌}
use mathlib.Core.Option.{map, some-injective, some}
use Prim.Native.Nat.{ℕ, suc, ◌+◌, ◌<◌, ◌≤◌}
use native.Mathlib.Omega.{arith}
use borrow.Author.Tests.{eqb-true}
use lib.Dec.{eqb}
use lib.ListN.{drop, get_or, get_elem?, length, length-map}
use lib.Seq.{get_or-drop, get_or-take}
use Rattle.automata.specs.Automaton.{Automaton, letters}
use Rattle.automata.specs.Counting.{Apart}
use Rattle.automata.specs.Exploration.{first_or, number}
use Rattle.automata.specs.Letters.{key, keys}
use Rattle.automata.specs.Words.{place, places}
use Rattle.automata.proofs.Laws.{at_map, at_some, spells-places}
use Rattle.relettering.specs.Relettering.{letter_by}
use Rattle.file_fields.specs.declared.Counts.{Counts}
use Rattle.std.specs.Prelude.{Ok}
use Rattle.format.specs.Decoding.{automaton_of}
use Rattle.format.specs.Reading.{reading_of}
use Rattle.file_laws.proofs.Laws.{valid-alphabet, valid-letters, valid-sizes, valid-well_formed}
use Rattle.join_product_count.specs.ProductArcs.{Matchable, Matches, numbers_by}

-- ---- two lists
-- the letter l of the one is the letter m of the other
abbrev pub SameAt : (one other : List ℕ) (l m : ℕ) → Type 0
SameAt one other l m = get_elem? (keys one) l ≡ get_elem? (keys other) m

-- what has a place in a list stands there
number-there : (n : ℕ) (l : List ℕ) → number eqb n l < length l → get_elem? l (number eqb n l) ≡ some n
unfolding number
number-there n [] h = absurd (omega arith)
number-there n (x ∷ l) h = go (eqb n x) refl h (number-there n l)
  where
    go : (t : Bool) → eqb n x ≡ t → first_or t (number eqb n l) < suc (length l) → (number eqb n l < length l → get_elem? l (number eqb n l) ≡ some n) → get_elem? (x ∷ l) (first_or t (number eqb n l)) ≡ some n
    go true e h r = ap some (sym (eqb-true n x e))
    go false e h r = r (omega arith)

-- the key of the letter at a place
key-at : (own : List ℕ) (m : ℕ) → m < length own → get_elem? (keys own) m ≡ some (key (get_or own m 0))
key-at own m h = at_map key own m ∙ ap (map key) (at_some own m 0 h)

-- the new number of a letter is the place of its byte
number-place : (all own : List ℕ) (m : ℕ) → m < length own → letter_by (places all own) m ≡ place all (get_or own m 0)
number-place all own m h =
    some-injective _ _ (sym (at_some (places all own) m m (omega (arith, length-map own (place all)))) ∙ at_map (place all) own m ∙ ap (map (place all)) (at_some own m 0 h))

-- THE LAW of matched letters: the letter m of a list has the number of exactly the same letter in the other
module _ (all own : List ℕ) (apart : Apart (keys all)) (l m : ℕ) (h : l < length all) (k : m < length own) where
  pub number_same : letter_by (places all own) m ≡ l → SameAt all own l m
  number_same e =
      let byte = get_or own m 0 in
      let p : place all byte ≡ l = sym (number-place all own m k) ∙ e in
      rw (← p) (number-there (key byte) (keys all) (omega (arith, length-map all key))) ∙ sym (key-at own m k)

  pub same_number : SameAt all own l m → letter_by (places all own) m ≡ l
  same_number e =
      let byte = get_or own m 0 in
      let p : place all byte ∷ [] ≡ l ∷ [] = spells-places all apart (byte ∷ []) (l ∷ []) (e ∙ key-at own m k, tt) in
      let q : place all byte ≡ l = cc in
      number-place all own m k ∙ q

-- ---- two files
-- how many letters are lent
pub others-few : {a b : Counts} {s t others : List ℕ} → Matchable a b s t others → length others ≤ 64
others-few {b = b} {t = t} v =
    ⊎_elim (λ p. omega (arith, ap length p.1)) (λ e. omega (arith, ap length e, ap (λ (c : Counts). c.letters) (valid-sizes t b v.second), (valid-letters t b v.second).0)) v.letters

-- none are lent: a letter has the same number
pub Matches-alike : (c : Counts) (first others : List ℕ) (l : ℕ) → length others ≡ 0 → l < 64 → Matches c (numbers_by first others) l l
Matches-alike c first [] l e h = record { numbered = λ k. refl; only = λ m k p. sym p; lettered = λ p. omega arith }
Matches-alike c first (x ∷ others) l e h = absurd (omega arith)

-- a letter of the first, as a byte of the file
letter-byte : (s : List ℕ) (a : Counts) → reading_of s ≡ Ok a → (l : ℕ) → l < a.letters → get_or (automaton_of s).alphabet l 0 ≡ get_or s (12 + l) 0
letter-byte s a e l h = ap (λ (z : List ℕ). get_or z l 0) (valid-alphabet s a e) ∙ get_or-take a.letters (drop 12 s) l 0 h ∙ get_or-drop 12 s l 0

-- the second's letters are lent: the place of the first's byte among them
pub Matches-other : {a b : Counts} {s t others : List ℕ} → Matchable a b s t others → length others ≢ 0 → (l : ℕ) → l < a.letters → {u : ℕ} → u ≡ place others (get_or s (12 + l) 0) → u ≤ length others → Matches b (numbers_by s others) l u
Matches-other {a} {b} {s} {t} {others} v lent l h {u} e few = ⊎_elim (λ p. absurd (lent (ap length p.1))) go v.letters
  where
    x : Automaton
    x = automaton_of s

    y : Automaton
    y = automaton_of t

    go : others ≡ y.alphabet → Matches b (numbers_by s others) l u
    go p =
        let many₁ : letters x ≡ a.letters = ap (λ (c : Counts). c.letters) (valid-sizes s a v.first) in
        let many₂ : letters y ≡ b.letters = ap (λ (c : Counts). c.letters) (valid-sizes t b v.second) in
        let apart₁ = (valid-well_formed s a v.first).letters_apart in
        let apart₂ = (valid-well_formed t b v.second).letters_apart in
        let here : l < letters x = omega arith in
        let is : u ≡ letter_by (places y.alphabet x.alphabet) l = e ∙ rw (p, ← letter-byte s a v.first l h) (sym (number-place y.alphabet x.alphabet l here)) in
        record {
          numbered = λ k. rw p (same_number x.alphabet y.alphabet apart₁ l u here (omega arith) (sym (number_same y.alphabet x.alphabet apart₂ u l (omega arith) here (sym is))));
          only = λ m k q. is ∙ same_number y.alphabet x.alphabet apart₂ m l (omega arith) here (sym (number_same x.alphabet y.alphabet apart₁ l m here (omega arith) (rw p at q)));
          lettered = λ q. omega (arith, others-few v);
        }
