-- `is_among` meets its contract: a byte is looked for as `contains` does.
use mathlib.Core.Path.{◌∙◌, ◌≡◌, ap₂, refl, sym}
use mathlib.Core.Bool.{◌||◌}
use mathlib.Core.List.{List, [], ◌∷◌}
use Prim.Native.Nat.{ℕ}
use native.Mathlib.Decide.{ℕ_discrete}
use borrow.Author.Tests.{eq-eqb, ne_eqb}
use lib.Dec.{eqb}
use Rattle.std.specs.List.{list_any}
use Rattle.automata.specs.Lists.{any}
use Rattle.format.proofs.letter_list.is_among.Goals as goal

other_way : (m n : ℕ) → eqb m n ≡ eqb n m
other_way m n = go (ℕ_discrete m n)
  where
    go : Dec (m ≡ n) → eqb m n ≡ eqb n m
    go (yes e) = eq-eqb m n e ∙ sym (eq-eqb n m (sym e))
    go (no f) = ne_eqb m n f ∙ sym (ne_eqb n m (λ e. f (sym e)))

among : (byte : ℕ) (l : List ℕ) → list_any (λ y. eqb y byte) l ≡ any (eqb byte) l
unfolding any
among byte [] = refl
among byte (x ∷ l) = ap₂ ◌||◌ (other_way x byte) (among byte l)

pub returns : goal.returns
returns c = c.contains.ensures.value ∙ among c.args.byte c.args.s.now
