-- UnionPut: letters put into a union of automata by their own numbers make it the union of the automata over these letters.
use mathlib.Core.Path.{◌∙◌, ◌≡◌, ap₂, refl, sym}
use mathlib.Core.List.{List, ◌++◌, ◌∷◌, map}
use Prim.Native.Nat.{◌+◌, ◌-◌, ◌≤◌, max, ℕ}
use native.Mathlib.Omega.{arith}
use lib.ListN.{drop, length, length-append, length-map, take}
use lib.Seq.{drop_at, take_at}
use Rattle.automata.specs.Automaton.{Arc, Automaton, states}
use Rattle.automata.specs.Joins.{empty_move, moved, union}
use Rattle.automata.proofs.Laws.{map-map}
use Rattle.relettering.specs.Relettering.{relettered_arc, with_letters}
use Rattle.join_parts.specs.OwnNumbers.{letters_put}

-- new numbers of letters go past other numbers of states
past_states : (new : List ℕ) (k : ℕ) (l : List Arc) → map (relettered_arc new) (map (moved k) l) ≡ map (moved k) (map (relettered_arc new) l)
past_states new k l = map-map (relettered_arc new) (moved k) l ∙ sym (map-map (moved k) (relettered_arc new) l)

-- the second's arcs are the last ones; the added empty moves have no letter
pub union-put : (x y : Automaton) (one two all : List ℕ) → letters_put (length y.arcs) one two all (union x y) ≡ union (with_letters one all x) (with_letters two all y)
unfolding letters_put with_letters union
union-put x y one two all =
    let n = 1 + states x in
    let l = empty_move 0 1 ∷ empty_move 0 n ∷ map (moved 1) x.arcs in
    let r = map (moved n) y.arcs in
    let before = length (l ++ r) - length y.arcs in
    let e : length l ≡ before = omega (arith, length-append l r, length-map y.arcs (moved n)) in
    let arcs : map (relettered_arc one) (take before (l ++ r)) ++ map (relettered_arc two) (drop before (l ++ r)) ≡ (union (with_letters one all x) (with_letters two all y)).arcs
    = ap₂ (λ (p q : List Arc). map (relettered_arc one) p ++ map (relettered_arc two) q) (take_at l r before e) (drop_at l r before e)
    ∙ ap₂ (λ (p q : List Arc). empty_move 0 1 ∷ empty_move 0 n ∷ (p ++ q)) (past_states one 1 x.arcs) (past_states two n y.arcs) in
    λ i. record { alphabet = all; registers = max x.registers y.registers; symbols = max x.symbols y.symbols; finals = (union x y).finals; arcs = arcs i }

-- it lists the letters of the first
pub union-lists : (x y : Automaton) → (union x y).alphabet ≡ x.alphabet
unfolding union
union-lists x y = refl

-- it has the arcs of the second
pub union-ends : (x y : Automaton) → length y.arcs ≤ length (union x y).arcs
unfolding union
union-ends x y =
    let l = map (moved 1) x.arcs in
    let r = map (moved (1 + states x)) y.arcs in
    omega (arith, length-append l r, length-map y.arcs (moved (1 + states x)))
