-- ConcatenationPut: letters put into a concatenation of automata by their own numbers make it the concatenation of the automata over
-- these letters.
use mathlib.Core.Path.{◌∙◌, ◌≡◌, ap, ap₂, refl, sym}
use mathlib.Core.List.{List, ◌++◌, append_assoc, map}
use Prim.Native.Nat.{◌+◌, ◌-◌, ◌≤◌, max, ℕ}
use native.Mathlib.Omega.{arith}
use lib.ListN.{drop, length, length-append, length-map, take}
use lib.Seq.{drop_at, take_at}
use Rattle.automata.specs.Automaton.{Arc, Automaton, states}
use Rattle.automata.specs.Joins.{concatenation, empty_move, final_states, moved_arc}
use Rattle.automata.proofs.Laws.{map-append, map-map}
use Rattle.relettering.specs.Relettering.{relettered_arc, with_letters}
use Rattle.join_parts.specs.OwnNumbers.{letters_put}

-- new numbers of letters go past other numbers of states and registers
past_moves : (new : List ℕ) (s k : ℕ) (l : List Arc) → map (relettered_arc new) (map (moved_arc s k) l) ≡ map (moved_arc s k) (map (relettered_arc new) l)
past_moves new s k l = map-map (relettered_arc new) (moved_arc s k) l ∙ sym (map-map (moved_arc s k) (relettered_arc new) l)

-- the second's arcs are the last ones; the added empty moves have no letter
pub concatenation-put : (x y : Automaton) (one two all : List ℕ) → letters_put (length y.arcs) one two all (concatenation x y) ≡ concatenation (with_letters one all x) (with_letters two all y)
unfolding letters_put with_letters concatenation
concatenation-put x y one two all =
    let n = states x in
    let k = x.registers - 1 in
    let final = final_states 0 x.finals in
    let m = map (λ (s : ℕ). empty_move s n) final in
    let l = x.arcs ++ m in
    let r = map (moved_arc n k) y.arcs in
    let same = append_assoc x.arcs m r in
    let before = length (x.arcs ++ (m ++ r)) - length y.arcs in
    let e : length l ≡ before = omega (arith, ap length same, length-append l r, length-map y.arcs (moved_arc n k)) in
    let arcs : map (relettered_arc one) (take before (x.arcs ++ (m ++ r))) ++ map (relettered_arc two) (drop before (x.arcs ++ (m ++ r))) ≡ (concatenation (with_letters one all x) (with_letters two all y)).arcs
    = ap (λ (p : List Arc). map (relettered_arc one) (take before p) ++ map (relettered_arc two) (drop before p)) (sym same)
    ∙ ap₂ (λ (p q : List Arc). map (relettered_arc one) p ++ map (relettered_arc two) q) (take_at l r before e) (drop_at l r before e)
    ∙ ap (λ (p : List Arc). p ++ map (relettered_arc two) r) (map-append (relettered_arc one) x.arcs m)
    ∙ append_assoc (map (relettered_arc one) x.arcs) (map (relettered_arc one) m) (map (relettered_arc two) r)
    ∙ ap₂ (λ (p q : List Arc). map (relettered_arc one) x.arcs ++ (p ++ q)) (map-map (relettered_arc one) (λ (s : ℕ). empty_move s n) final) (past_moves two n k y.arcs) in
    λ i. record { alphabet = all; registers = x.registers + y.registers - 1; symbols = max x.symbols y.symbols; finals = (concatenation x y).finals; arcs = arcs i }

-- it lists the letters of the first
pub concatenation-lists : (x y : Automaton) → (concatenation x y).alphabet ≡ x.alphabet
unfolding concatenation
concatenation-lists x y = refl

-- it has the arcs of the second
pub concatenation-ends : (x y : Automaton) → length y.arcs ≤ length (concatenation x y).arcs
unfolding concatenation
concatenation-ends x y =
    let m = map (λ (s : ℕ). empty_move s (states x)) (final_states 0 x.finals) in
    let r = map (moved_arc (states x) (x.registers - 1)) y.arcs in
    omega (arith, length-append x.arcs (m ++ r), length-append m r, length-map y.arcs (moved_arc (states x) (x.registers - 1)))
