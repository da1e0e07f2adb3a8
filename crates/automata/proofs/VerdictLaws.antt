-- VerdictLaws: the verdict is right, for words of every length and whatever their letters (demand 3).
use mathlib.Core.Path.{◌∙◌, ◌≡◌, ap, refl, subst, sym}
use mathlib.Core.Logic.{◌↔◌, ◌⊎◌, inl, inr, ⊎_elim}
use Prim.Native.Nat.{◌<◌, ◌≤◌, ℕ}
use lib.Dec.{T}
use lib.ListN.{length}
use mathlib.Core.Bool.{Bool, beq, cond, false, not, true}
use mathlib.Core.List.{List, Memᴰ, [], ◌∷◌}
use mathlib.Core.Option.{Option, none, some}
use native.Mathlib.Decide.{dec_lt}
use Rattle.automata.specs.Automaton.{Accepts, Arc, Automaton, Configuration, Produces, Run, letters, silent, spell, stay}
use Rattle.automata.specs.Pairs.{OneAccepts, Pair, Right, differ, first_accepts, first_passing, judged, pair_of, pairs, taker_of, verdict}
use Rattle.automata.specs.Search.{Entry, Over}
use Rattle.automata.specs.Unfolding.{accepted, configurations}
use Rattle.automata.proofs.PairLaws.{AnswersPass, FindsPair, first-passing, pairs-count}
use Rattle.automata.proofs.UnfoldingLaws.{accepted-iff}
use Rattle.automata.proofs.WordOrderLaws.{earliest-same}

-- the arcs have letters of the automaton only
abbrev pub Lettered : Automaton → Type 0
Lettered x = (r : Arc) → Memᴰ r x.arcs → (l : ℕ) → r.letter ≡ some l → l < letters x

-- and so a run spells such letters only
run-over : (x : Automaton) → Lettered x → {c d : Configuration} {w : List ℕ} → Run (Produces x) c w d → Over (letters x) w
run-over x v stay = tt
run-over x v (silent m r) = run-over x v r
run-over x v (spell {a = l} m r) = (v m.arc m.listed l m.spells, run-over x v r)

accepts-over : (x : Automaton) → Lettered x → (w : List ℕ) → Accepts x w → Over (letters x) w
accepts-over x v w t = run-over x v t.run

over-or_not : (a : ℕ) (w : List ℕ) → Over a w ⊎ (¬ Over a w)
over-or_not a [] = inl tt
over-or_not a (x ∷ w) = go (dec_lt x a) (over-or_not a w)
  where
    go : Dec (x < a) → Over a w ⊎ (¬ Over a w) → Over a (x ∷ w) ⊎ (¬ Over a (x ∷ w))
    go (yes h) (inl o) = inl (h, o)
    go (yes h) (inr n) = inr (λ o. n o.1)
    go (no h) s = inr (λ o. h o.0)

abbrev one_two : Bool → ℕ
one_two t = cond t 1 2

-- whom the pair of a word names
taker-of : (x y : Automaton) (L : ℕ) (w : List ℕ) → taker_of x y L (pair_of x y L w) ≡ one_two (accepted x L w)
unfolding taker_of first_accepts accepted pair_of
taker-of x y L w = refl

-- ---- two tests that decide two facts
module _ {A B : Type 0} where
  one_of : (s t : Bool) → T s ↔ A → T t ↔ B → T (not (beq s t)) ↔ ((A × ¬ B) ⊎ (¬ A × B))
  one_of true true f g = (λ n. absurd n, λ o. ⊎_elim (λ p. p.1 (g.0 tt)) (λ p. p.0 (f.0 tt)) o)
  one_of true false f g = (λ n. inl (f.0 tt, g.1), λ o. tt)
  one_of false true f g = (λ n. inr (f.1, g.0 tt), λ o. tt)
  one_of false false f g = (λ n. absurd n, λ o. ⊎_elim (λ p. f.1 p.0) (λ p. g.1 p.1) o)

  both-or_neither : (s t : Bool) → T s ↔ A → T t ↔ B → ¬ T (not (beq s t)) → A ↔ B
  both-or_neither true true f g h = (λ a. g.0 tt, λ b. f.0 tt)
  both-or_neither true false f g h = absurd (h tt)
  both-or_neither false true f g h = absurd (h tt)
  both-or_neither false false f g h = (λ a. absurd (f.1 a), λ b. absurd (g.1 b))

  named : (t : Bool) → T t ↔ A → (A × ¬ B) ⊎ (¬ A × B) → ((one_two t ≡ 1) × A × ¬ B) ⊎ ((one_two t ≡ 2) × ¬ A × B)
  named true f o = ⊎_elim (λ p. inl (refl, p.0, p.1)) (λ p. absurd (p.0 (f.0 tt))) o
  named false f o = ⊎_elim (λ p. absurd (f.1 p.0)) (λ p. inr (refl, p.0, p.1)) o

module _ (x y : Automaton) (L P : ℕ) (lx : Lettered x) (ly : Lettered y) (shared : letters y ≡ letters x)
    (fits₁ : length (configurations x L) ≤ L) (fits₂ : length (configurations y L) ≤ L) (few : length (pairs x y L P) ≤ P) where
  -- a word that one of the two accepts is over the letters
  over-x : (w : List ℕ) → Accepts x w → Over (letters x) w
  over-x w t = accepts-over x lx w t

  over-y : (w : List ℕ) → Accepts y w → Over (letters x) w
  over-y w t = subst (λ (a : ℕ). Over a w) shared (accepts-over y ly w t)

  -- the answers to a word over the letters differ just if exactly one accepts it
  one-accepts : (w : List ℕ) → AnswersPass x y L differ w ↔ OneAccepts x y w
  one-accepts w =
      let h = one_of (accepted x L w) (accepted y L w) (accepted-iff x L fits₁ w) (accepted-iff y L fits₂ w) in
      (λ p. h.0 p.1, λ o. (⊎_elim (λ q. over-x w q.0) (λ q. over-y w q.1) o, h.1 o))

  same_words : ((w : List ℕ) → ¬ AnswersPass x y L differ w) → (w : List ℕ) → Accepts x w ↔ Accepts y w
  same_words h w = ⊎_elim
      (λ o. both-or_neither (accepted x L w) (accepted y L w) (accepted-iff x L fits₁ w) (accepted-iff y L fits₂ w) (λ t. h w (o, t)))
      (λ n. (λ t. absurd (n (over-x w t)), λ t. absurd (n (over-y w t))))
      (over-or_not (letters x) w)

  -- DEMAND 3. Within the limits: told the same, every word of every length is accepted by both or by neither; told different, exactly
  -- the named automaton accepts the word, and no word that exactly one accepts comes before it. The number is that of the pairs.
  pub verdict-right : Right x y L (verdict x y L P)
  unfolding verdict judged
  verdict-right = go (first_passing x y L differ P) (first-passing x y L differ P few)
    where
      go : (o : Option (Entry Pair)) → FindsPair x y L differ o → Right x y L (judged x y L (length (pairs x y L P)) o)
      go none h = (pairs-count x y L P few, same_words h)
      go (some e) h = (
        pairs-count x y L P few,
        record {
          over = h.1.has.0;
          by = subst (λ (k : ℕ). ((k ≡ 1) × Accepts x e.word × ¬ Accepts y e.word) ⊎ ((k ≡ 2) × ¬ Accepts x e.word × Accepts y e.word))
              (sym (ap (taker_of x y L) h.0 ∙ taker-of x y L e.word))
              (named (accepted x L e.word) (accepted-iff x L fits₁ e.word) ((one-accepts e.word).0 h.1.has));
          earliest = earliest-same e.word one-accepts h.1;
        },
      )
