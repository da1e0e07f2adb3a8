-- Settled: what is promised of comparing leaves nothing open. Two answers to one call that both keep the promise are one answer, and the
-- buffers that they leave hold the same bytes: whoever compares the same files is shown the same word (document 02, change 1), in the
-- same bytes (changes 4 and 6).
use mathlib.Core.Path.{◌≡◌, ◌∙◌, ap, ap₂, refl, sym}
use mathlib.Core.Logic.{◌⊎◌, inl, inr}
use mathlib.Core.List.{List, ◌++◌}
use Prim.Native.Nat.{ℕ}
use native.Mathlib.Omega.{arith}
use lib.ListN.{drop, length, length-take, take, take-append-drop}
use Rattle.automata.specs.Automaton.{Automaton}
use Rattle.automata.specs.Pairs.{OneAccepts}
use Rattle.automata.specs.Words.{Language, Spells}
use Rattle.automata.proofs.Laws.{counting-unique, spelled-one}
use Rattle.relettering.specs.Relettering.{with_letters}
use Rattle.format.specs.Decoding.{automaton_of}
use Rattle.compare_promise.specs.Comparing.{refused as refusal, told}
use Rattle.compare_promise.specs.Promised.{Either, Premises, Promised, letters_in, over_all}
use Rattle.file_fields.specs.declared.Refusal.{Refusal}
use Rattle.file_fields.specs.Parts.{automaton_number, number_of}
use Rattle.file_laws.proofs.Laws.{automaton-one, number-one}
use Rattle.compare_promise.specs.declared.Comparison.{Comparison}
use Rattle.compare_promise.specs.declared.Comparison.TheVariants.{Different, Refused, Same}
use Rattle.compare_promise.proofs.OverLetters.{Either-own, formed₁, formed₂, letters_apart, shared-letters}
use Rattle.compare_promise.proofs.ShownBytes.{one-spells}

-- one word has one taker
one-taker : {A B : Type 0} (k l : ℕ) → ((k ≡ 1) × A × ¬ B) ⊎ ((k ≡ 2) × B × ¬ A) → ((l ≡ 1) × A × ¬ B) ⊎ ((l ≡ 2) × B × ¬ A) → k ≡ l
one-taker k l (inl g) (inl h) = g.0 ∙ sym h.0
one-taker k l (inl g) (inr h) = absurd (h.2 g.1)
one-taker k l (inr g) (inl h) = absurd (g.2 h.1)
one-taker k l (inr g) (inr h) = g.0 ∙ sym h.0

module _ (first second : List ℕ) (words : ℕ) (old : List ℕ) where
  -- comparing answers r and leaves `new`, as is promised
  abbrev Keeps : List ℕ → Comparison → Type 0
  Keeps new r = Promised first second words old new (told r)

  -- the premises of demand 3
  abbrev Granted : Type 0
  Granted = Premises first second words (length old)

  abbrev x : Automaton
  x = automaton_of first

  abbrev y : Automaton
  y = automaton_of second

  abbrev all : List ℕ
  all = letters_in first second

  abbrev x' : Automaton
  x' = over_all first second first

  abbrev y' : Automaton
  y' = over_all first second second

  -- a refusal comes where a premise does not hold
  not-refused : (new : List ℕ) (r : Refusal) → Keeps new (Refused r) → ¬ Granted
  not-refused new r q p = q.different.1 (p, λ e. q.same.1 (p, e))

  -- two that are told different
  module _ (new new' : List ℕ) (n k s n' k' s' : ℕ) (p : Keeps new (Different n k s)) (q : Keeps new' (Different n' k' s')) where
    premises : Granted
    premises = p.answers.0 refl

    one : Either (Language x (take s new)) (Language y (take s new))
    one = (p.earliest tt).has

    one' : Either (Language x (take s' new')) (Language y (take s' new'))
    one' = (q.earliest tt).has

    -- each is as long as the other, and none comes before the other
    same_size : s ≡ s'
    same_size = omega (arith, p.shortest tt (take s' new') one', q.shortest tt (take s new) one, length-take s new, length-take s' new', p.whole, q.whole)

    same_word : take s new ≡ take s' new'
    unfolding with_letters
    same_word =
        let v₁ = premises.valid₁ in
        let v₂ = premises.valid₂ in
        let spelled : (w : List ℕ) → Either (Language x w) (Language y w) → (v : List ℕ) × Spells all w v × OneAccepts x' y' v = λ w o. one-spells x' y' (formed₁ first second v₁ v₂) (formed₂ first second v₁ v₂) (shared-letters all x y) w ((Either-own first second v₁ v₂ w).1 o) in
        let u = spelled (take s new) one in
        let u' = spelled (take s' new') one' in
        spelled-one all (letters_apart first second v₁ v₂) (take s new) (take s' new') u.0 u'.0 (p.written tt) (q.written tt) u.1 u'.1 ((q.earliest tt).first (take s new) one) ((p.earliest tt).first (take s' new') one')

    same-taker : k ≡ k'
    same-taker = one-taker k k' (p.shows tt) (rw same_word (q.shows tt))

    same-pairs : n ≡ n'
    same-pairs = counting-unique (p.counts premises) (q.counts premises)

    same_answer : Different n k s ≡ Different n' k' s'
    same_answer = λ i. Different (same-pairs i) (same-taker i) (same_size i)

    same-buffer : new ≡ new'
    same-buffer =
        sym (take-append-drop s new)
        ∙ ap₂ (λ (u v : List ℕ). u ++ v) same_word (p.behind ∙ ap (λ (j : ℕ). drop j old) same_size ∙ sym q.behind)
        ∙ take-append-drop s' new'

  -- NOTHING IS OPEN: one answer and one buffer keep the promise.
  pub comparing_settled : (r r' : Comparison) (new new' : List ℕ) → Keeps new r → Keeps new' r' → (r ≡ r') × (new ≡ new')
  comparing_settled (Same n) (Same n') new new' p q = let h = p.answers.0 refl in (ap Same (counting-unique (p.counts h) (q.counts h)), p.behind ∙ sym q.behind)
  comparing_settled (Same n) (Different n' k' s') new new' p q = absurd ((q.different.0 tt).1 (p.same.0 tt).1)
  comparing_settled (Same n) (Refused r') new new' p q = absurd (not-refused new' r' q (p.answers.0 refl))
  comparing_settled (Different n k s) (Same n') new new' p q = absurd ((p.different.0 tt).1 (q.same.0 tt).1)
  comparing_settled (Different n k s) (Different n' k' s') new new' p q = (same_answer new new' n k s n' k' s' p q, same-buffer new new' n k s n' k' s' p q)
  comparing_settled (Different n k s) (Refused r') new new' p q = absurd (not-refused new' r' q (p.answers.0 refl))
  comparing_settled (Refused r) (Same n') new new' p q = absurd (not-refused new r p (q.answers.0 refl))
  comparing_settled (Refused r) (Different n' k' s') new new' p q = absurd (not-refused new r p (q.answers.0 refl))
  comparing_settled (Refused r) (Refused r') new new' p q =
      let e = (q.refuses (number_of r.reason) (automaton_number r.automaton)).1 ((p.refuses (number_of r.reason) (automaton_number r.automaton)).0 (refl, refl)) in
      (ap₂ refusal (number-one r.reason r'.reason (sym e.0)) (automaton-one r.automaton r'.automaton (sym e.1)), p.behind ∙ sym q.behind)
