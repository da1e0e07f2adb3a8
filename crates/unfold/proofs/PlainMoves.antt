-- PlainMoves: the arcs of the unfolded automaton that pass from a configuration are those that were met there, in order.
use mathlib.Core.Path.{◌∙◌, ◌≡◌, ap, ap₂, refl}
use mathlib.Core.Logic.{◌≢◌}
use mathlib.Core.List.{List, [], ◌++◌, ◌∷◌, append-nil, map}
use mathlib.Core.Option.{Option, some-injective, bind, none, some}
use Prim.Native.Nat.{◌+◌, ◌<◌, suc, zero, ℕ}
use native.Mathlib.Nat.{add-zero}
use native.Mathlib.Omega.{arith}
use borrow.Author.Tests.{eq-eqb, ne_eqb}
use lib.ListN.{get_elem?}
use Rattle.automata.specs.Automaton.{Automaton, Configuration}
use Rattle.automata.specs.Exploration.{number}
use Rattle.automata.specs.Lists.{collect, prepend}
use Rattle.automata.specs.Performing.{Move, act, along, perform, successors}
use Rattle.automata.specs.Unfolding.{as_arc, configurations, plain_all, plain_arcs, plain_from, same_configuration, unfolded}
use Rattle.automata.proofs.Laws.{map-append, none-some}

collect-append : {A B : Type 0} (g : A → Option B) (l r : List A) → collect g (l ++ r) ≡ collect g l ++ collect g r
unfolding collect
collect-append g [] r = refl
collect-append {A} {B} g (x ∷ l) r = ap (prepend (g x)) (collect-append g l r) ∙ front (g x) (collect g l) (collect g r)
  where
    front : (o : Option B) (u v : List B) → prepend o (u ++ v) ≡ prepend o u ++ v
    front none u v = refl
    front (some y) u v = refl

-- configuration number j of the unfolded automaton
abbrev pub plainly : ℕ → Configuration
plainly j = record { state = j; contents = 0 ∷ [] }

module _ (x : Automaton) (all : List Configuration) where
  -- a configuration by its number, and a passing arc that leads to it
  abbrev pub numbered : Configuration → Configuration
  numbered c = plainly (number same_configuration c all)

  abbrev pub plain_move : Move → Move
  plain_move m = record { letter = m.letter; to = numbered m.to }

  -- of the arcs of configuration i, all pass there, and none elsewhere
  from-here : (i : ℕ) (ms : List Move) → collect (along (plainly i)) (map as_arc (plain_from all i ms)) ≡ map plain_move ms
  unfolding plain_from collect along perform act bind
  from-here i [] = refl
  from-here i (m ∷ ms) = rw (eq-eqb i i refl, from-here i ms)

  from-elsewhere : (i j : ℕ) → j ≢ i → (ms : List Move) → collect (along (plainly i)) (map as_arc (plain_from all j ms)) ≡ []
  unfolding plain_from collect along bind
  from-elsewhere i j h [] = refl
  from-elsewhere i j h (m ∷ ms) = rw (ne_eqb j i h, from-elsewhere i j h ms)

  module _ (j : ℕ) (c : Configuration) (cs : List Configuration) where
    abbrev own : List Move
    own = successors x c

    split : (i : ℕ) → collect (along (plainly i)) (map as_arc (plain_all x all j (c ∷ cs)))
        ≡ collect (along (plainly i)) (map as_arc (plain_from all j own)) ++ collect (along (plainly i)) (map as_arc (plain_all x all (suc j) cs))
    unfolding plain_all
    split i = ap (collect (along (plainly i))) (map-append as_arc (plain_from all j own) (plain_all x all (suc j) cs)) ∙ collect-append (along (plainly i)) (map as_arc (plain_from all j own)) (map as_arc (plain_all x all (suc j) cs))

  none-later : (i j : ℕ) (cs : List Configuration) → i < j → collect (along (plainly i)) (map as_arc (plain_all x all j cs)) ≡ []
  unfolding plain_all collect
  none-later i j [] h = refl
  none-later i j (c ∷ cs) h = split j c cs i ∙ ap₂ (λ (u v : List Move). u ++ v) (from-elsewhere i j (λ e. omega arith) (successors x c)) (none-later i (suc j) cs (omega arith))

  from_place : (j : ℕ) (cs : List Configuration) (n : ℕ) {c : Configuration} → get_elem? cs n ≡ some c → collect (along (plainly (j + n))) (map as_arc (plain_all x all j cs)) ≡ map plain_move (successors x c)
  from_place j [] n e = none-some refl e
  from_place j (d ∷ cs) zero {c} e =
      let q : d ≡ c = some-injective d c e in
      rw (add-zero j)
      (split j d cs j ∙ ap₂ (λ (u v : List Move). u ++ v) (from-here j (successors x d)) (none-later j (suc j) cs (omega arith)) ∙ append-nil (map plain_move (successors x d)) ∙ rw q)
  from_place j (d ∷ cs) (suc n) {c} e =
      let q : j + suc n ≡ suc j + n = omega arith in
      rw q (split j d cs (suc j + n) ∙ ap₂ (λ (u v : List Move). u ++ v) (from-elsewhere (suc j + n) j (λ p. omega arith) (successors x d)) (from_place (suc j) cs n e))

-- THE LAW. What passes from configuration number i of the unfolded automaton
pub plain-successors : (x : Automaton) (L i : ℕ) {c : Configuration} → get_elem? (configurations x L) i ≡ some c
    → successors (unfolded x L) (plainly i) ≡ map (plain_move x (configurations x L)) (successors x c)
unfolding unfolded plain_arcs successors
plain-successors x L i e = let z : 0 + i ≡ i = omega arith in rw z at (from_place x (configurations x L) 0 (configurations x L) i e)
