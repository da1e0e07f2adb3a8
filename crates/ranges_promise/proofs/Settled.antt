-- Settled: what is promised of a word with ranges leaves nothing open. Two answers to one call, as they are told, that both keep the promise are
-- one. Where nothing is refused one of the three is told, and no other. And a word whose letters are all known, the empty one among them, has one
-- filling, and is told always just if it is accepted.
use mathlib.Core.Path.{◌∙◌, ◌≡◌, ap₂, refl, subst, sym}
use mathlib.Core.Logic.{◌↔◌, ◌⊎◌, inl, inr}
use mathlib.Core.Bool.{Bool, false, true}
use mathlib.Core.List.{List, [], ◌∷◌}
use Prim.Native.Nat.{ℕ}
use native.Mathlib.Omega.{arith}
use lib.Dec.{T}
use Rattle.automata.specs.Automaton.{Accepts}
use Rattle.automata.proofs.Laws.{Bool-ext}
use Rattle.fillings.specs.Fillings.{Fills}
use Rattle.format.specs.Decoding.{automaton_of}
use Rattle.ranges_promise.specs.Promised.{Promised}
use Rattle.ranges_promise.specs.RangeAnswers.{Told, ranges_of}
use Rattle.ranges_promise.proofs.Promise.{none-rejected}

-- two tests of one thing are one
one-test : {A : Type 0} (a b : Bool) → T a ↔ A → T b ↔ A → a ≡ b
one-test a b f g = Bool-ext a b (λ t. g.1 (f.0 t)) (λ t. f.1 (g.0 t))

-- NOTHING IS OPEN: one answer keeps the promise.
pub ranging_settled : (file bytes : List ℕ) (words : ℕ) (t u : Told) → Promised file bytes words t → Promised file bytes words u → t ≡ u
ranging_settled file bytes words t u p q =
    let refusal = (q.refuses t.number t.at_fault).1 ((p.refuses t.number t.at_fault).0 (refl, refl)) in
    λ i. record {
      number = sym refusal.0 i;
      at_fault = sym refusal.1 i;
      always = one-test t.always u.always p.always q.always i;
      sometimes = one-test t.sometimes u.sometimes p.sometimes q.sometimes i;
      never = one-test t.never u.never p.never q.never i;
    }

-- ---- where nothing is refused one of the three is told, and no other
-- the first of three tests holds, and the others do not
abbrev Only : (a b c : Bool) → Type 0
Only a b c = T a × (¬ T b) × (¬ T c)

one_of : (a s n : Bool) → (T a → ¬ T s) → (T a → ¬ T n) → (T n → ¬ T s) → ¬ ((¬ T a) × (¬ T s) × (¬ T n)) → Only a s n ⊎ (Only s a n ⊎ Only n a s)
one_of true s n f g h some = inl (tt, f tt, g tt)
one_of false true n f g h some = inr (inl (tt, λ t. t, λ t. h t tt))
one_of false false true f g h some = inr (inr (tt, λ t. t, λ t. t))
one_of false false false f g h some = absurd (some (λ t. t, λ t. t, λ t. t))

module _ (file bytes : List ℕ) (words : ℕ) (t : Told) (p : Promised file bytes words t) where
  pub one_told : t.number ≡ 0 → Only t.always t.sometimes t.never ⊎ (Only t.sometimes t.always t.never ⊎ Only t.never t.always t.sometimes)
  one_told z =
      let h = p.answers.0 z in
      let f = p.fillable h in
      one_of t.always t.sometimes t.never
      (λ a s. let r = (p.sometimes.0 s).2 in r.rejects ((p.always.0 a).1 r.word r.fills))
      (λ a n. (p.never.0 n).1 f.0 f.1 ((p.always.0 a).1 f.0 f.1))
      (λ n s. let y = (p.sometimes.0 s).1 in (p.never.0 n).1 y.word y.fills y.accepts)
      (λ k. k.2 (p.never.1 (h, λ w g y. k.0 (p.always.1 (h, none-rejected file bytes words h (λ r. k.1 (p.sometimes.1 (h, record { word = w; fills = g; accepts = y }, r))))))))

-- ---- words whose letters are all known
-- the bytes of a word's letters, each its place's low and high
abbrev pub fixed : List ℕ → List ℕ
fixed [] = []
fixed (l ∷ w) = l ∷ l ∷ fixed w

fixed-fills : (w : List ℕ) → Fills (ranges_of (fixed w)) w
unfolding ranges_of
fixed-fills [] = tt
fixed-fills (l ∷ w) = (omega arith, omega arith, fixed-fills w)

fixed-one : (w v : List ℕ) → Fills (ranges_of (fixed w)) v → v ≡ w
unfolding ranges_of
fixed-one [] [] f = refl
fixed-one [] (k ∷ v) f = absurd f
fixed-one (l ∷ w) [] f = absurd f
fixed-one (l ∷ w) (k ∷ v) f = let e : k ≡ l = omega (arith, f.0, f.1) in ap₂ (λ (j : ℕ) (u : List ℕ). j ∷ u) e (fixed-one w v f.2)

module _ (file : List ℕ) (w : List ℕ) (words : ℕ) (t : Told) (p : Promised file (fixed w) words t) where
  -- such a word is not told sometimes: that would be of the one filling, accepted and not
  pub fixed-settled : ¬ T t.sometimes
  fixed-settled s =
      let h = p.sometimes.0 s in
      let e = fixed-one w h.1.word h.1.fills ∙ sym (fixed-one w h.2.word h.2.fills) in
      h.2.rejects (subst (Accepts (automaton_of file)) e h.1.accepts)

  -- it is told always just if it is accepted
  pub fixed-accepted : t.number ≡ 0 → T t.always ↔ Accepts (automaton_of file) w
  fixed-accepted z = (
    λ a. (p.always.0 a).1 w (fixed-fills w),
    λ a. p.always.1 (p.answers.0 z, λ v f. subst (Accepts (automaton_of file)) (sym (fixed-one w v f)) a),
  )

-- with no places sometimes is not told
pub whole_word : (file : List ℕ) (words : ℕ) (t : Told) → Promised file [] words t → ¬ T t.sometimes
whole_word file words t p = fixed-settled file [] words t p
