-- HeldTwice: the numbers that two rows of a table hold, gathered row by row.
use mathlib.Core.Path.{◌≡◌, sym, subst}
use mathlib.Core.Logic.{◌⊎◌, inl, inr}
use mathlib.Core.Bool.{◌||◌, ◌&&◌}
use mathlib.Core.List.{List}
use Prim.Native.Nat.{ℕ, ◌+◌, ◌<◌}
use native.Mathlib.Decide.{ℕ_discrete}
use native.Mathlib.Omega.{arith}
use lib.Dec.{T}
use Rattle.automata.proofs.Laws.{and-iff, or_iff}
use Rattle.word_sets.specs.Sets.{in_set}
use Rattle.word_rows.specs.Rows.{row, related}

-- what one of the first i rows holds is in `once`, what two of them hold in `twice`
pub record Gathered (w : List ℕ) (base i : ℕ) (once twice : List ℕ) : Type 0 where
  pub held : (p j : ℕ) → p < i → T (related w base p j) → T (in_set once j)
  pub shared : (p m j : ℕ) → p < m → m < i → T (related w base p j) → T (related w base m j) → T (in_set twice j)

pub Gathered-start : (w : List ℕ) (base : ℕ) (once twice : List ℕ) → Gathered w base 0 once twice
Gathered-start w base once twice = record { held = λ p j h t. absurd (omega arith); shared = λ p m j h l s t. absurd (omega arith) }

-- row i comes in: `both` is what it and an earlier row hold
pub Gathered-more : {w : List ℕ} {base i : ℕ} {once twice set again all : List ℕ} (both : List ℕ) → Gathered w base i once twice → set ≡ row w base i
    → ((j : ℕ) → in_set both j ≡ (in_set once j && in_set set j)) → ((j : ℕ) → in_set again j ≡ (in_set twice j || in_set both j))
    → ((j : ℕ) → in_set all j ≡ (in_set once j || in_set set j)) → Gathered w base (i + 1) all again
unfolding related
Gathered-more {w} {base} {i} {once} {twice} {set} {again} {all} both c is fb fa fo = record {
  held = λ p j h t. subst T (sym (fo j)) ((or_iff (in_set once j) (in_set set j)).1 (one p j h t (ℕ_discrete p i)));
  shared = λ p m j h l s t. subst T (sym (fa j)) ((or_iff (in_set twice j) (in_set both j)).1 (two p m j h l s t (ℕ_discrete m i)));
}
  where
    mine : (p j : ℕ) → p ≡ i → T (related w base p j) → T (in_set set j)
    mine p j e t = rw is (subst (λ (x : ℕ). T (related w base x j)) e t)

    one : (p j : ℕ) → p < i + 1 → T (related w base p j) → Dec (p ≡ i) → T (in_set once j) ⊎ T (in_set set j)
    one p j h t (yes e) = inr (mine p j e t)
    one p j h t (no e) = inl (c.held p j (omega arith) t)

    two : (p m j : ℕ) → p < m → m < i + 1 → T (related w base p j) → T (related w base m j) → Dec (m ≡ i) → T (in_set twice j) ⊎ T (in_set both j)
    two p m j h l s t (yes e) = inr (subst T (sym (fb j)) ((and-iff (in_set once j) (in_set set j)).1 (c.held p j (omega arith) s, mine m j e t)))
    two p m j h l s t (no e) = inl (c.shared p m j h (omega arith) s t)
