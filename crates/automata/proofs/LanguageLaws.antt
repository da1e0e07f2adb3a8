-- LanguageLaws: the languages of the joined and the unfolded automata, for words of bytes and of every length.
use mathlib.Core.Logic.{◌↔◌, ◌⊎◌, inl, inr, ⊎_elim}
use Prim.Native.Nat.{◌≤◌, ℕ}
use lib.ListN.{length}
use mathlib.Core.List.{List}
use Rattle.automata.specs.Automaton.{Accepts, Automaton, WellFormed}
use Rattle.automata.specs.Joins.{closure, concatenation, intersection, union}
use Rattle.automata.specs.Languages.{Concatenation, Star}
use Rattle.automata.specs.Unfolding.{configurations, unfolded}
use Rattle.automata.specs.Words.{Language, SameLetters, Spelled}
use Rattle.automata.proofs.ClosureLaws.{closure-iff}
use Rattle.automata.proofs.ConcatenationLaws.{concatenation-iff}
use Rattle.automata.proofs.IntersectionLaws.{intersection-iff}
use Rattle.automata.proofs.ListLaws.{iff-trans}
use Rattle.automata.proofs.UnfoldedLaws.{unfolded-iff}
use Rattle.automata.proofs.UnionLaws.{union-iff}
use Rattle.automata.proofs.WordLaws.{spelled-both, spelled-either, spelled-keys, spelled_same, spelled-split, spelled-star}

-- ---- the languages of joined automata, whose parts list the same letters
module _ (a b : Automaton) (va : WellFormed a) (vb : WellFormed b) (shared : SameLetters a b) where
  -- the second's words, spelled by the first's letters
  second : (s : List ℕ) → Spelled a.alphabet (Accepts b) s ↔ Language b s
  second = spelled-keys a.alphabet b.alphabet shared (Accepts b)

  pub union-language : (s : List ℕ) → Language (union a b) s ↔ (Language a s ⊎ Language b s)
  unfolding union
  union-language s =
      iff-trans (spelled_same a.alphabet (Accepts (union a b)) (λ w. Accepts a w ⊎ Accepts b w) (union-iff a b va vb) s)
      (iff-trans (spelled-either a.alphabet (Accepts a) (Accepts b) s) (⊎_elim (λ l. inl l) (λ r. inr ((second s).0 r)), ⊎_elim (λ l. inl l) (λ r. inr ((second s).1 r))))

  pub concatenation-language : (s : List ℕ) → Language (concatenation a b) s ↔ Concatenation (Language a) (Language b) s
  unfolding concatenation
  concatenation-language s =
      iff-trans (spelled_same a.alphabet (Accepts (concatenation a b)) (Concatenation (Accepts a) (Accepts b)) (concatenation-iff a b va vb) s)
      (iff-trans (spelled-split a.alphabet (Accepts a) (Accepts b) s) (
        λ p. record { left = p.left; right = p.right; whole = p.whole; first = p.first; second = (second p.right).0 p.second },
        λ p. record { left = p.left; right = p.right; whole = p.whole; first = p.first; second = (second p.right).1 p.second },
      ))

  pub intersection-language : (s : List ℕ) → Language (intersection a b) s ↔ (Language a s × Language b s)
  unfolding intersection
  intersection-language s =
      iff-trans (spelled_same a.alphabet (Accepts (intersection a b)) (λ w. Accepts a w × Accepts b w) (intersection-iff a b va vb) s)
      (iff-trans (spelled-both a.alphabet va.letters_apart (Accepts a) (Accepts b) s) (λ p. (p.0, (second s).0 p.1), λ p. (p.0, (second s).1 p.1)))

pub closure-language : (a : Automaton) → WellFormed a → (s : List ℕ) → Language (closure a) s ↔ Star (Language a) s
unfolding closure
closure-language a va s = iff-trans (spelled_same a.alphabet (Accepts (closure a)) (Star (Accepts a)) (closure-iff a va) s) (spelled-star a.alphabet (Accepts a) s)

-- the unfolded automaton has the same language
pub unfolded-language : (x : Automaton) (L : ℕ) → length (configurations x L) ≤ L → (s : List ℕ) → Language (unfolded x L) s ↔ Language x s
unfolding unfolded
unfolded-language x L fits s = spelled_same x.alphabet (Accepts (unfolded x L)) (Accepts x) (unfolded-iff x L fits) s

-- automata with the same letters that accept the same words have the same language
pub same-language : (x y : Automaton) → SameLetters x y → ((w : List ℕ) → Accepts x w ↔ Accepts y w) → (s : List ℕ) → Language x s ↔ Language y s
same-language x y shared f s = iff-trans (spelled_same x.alphabet (Accepts x) (Accepts y) f s) (spelled-keys x.alphabet y.alphabet shared (Accepts y) s)
