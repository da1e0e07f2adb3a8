-- Joins: union, concatenation, intersection and closure of automata (document 003, section 3.2), as document 01, 'Joining books', numbers
-- states, registers and arcs. A join lists the first's letter bytes (document 02, change 4). Closure departs from document 003, which makes
-- the old initial state final.
use Rattle.std.specs.Prelude.{ℕ, zero, suc, ◌+◌, ◌*◌, ◌-◌, max, Bool, true, false, ◌&&◌, replicate}
use mathlib.Core.List.{List, [], ◌∷◌, ◌++◌, map, flat_map}
use Rattle.std.proofs.Math.Option.{Option, none, some}
use Rattle.automata.specs.Lists.{keep, count_from, same_letter}
use Rattle.automata.specs.Automaton.{Op, reads, writes, Arc, Automaton, states}
use Rattle.automata.specs.Unfolding.{read_zero}

-- an arc from s to t with the letter α, or none
abbrev pub arc_from : ℕ → Option ℕ → ℕ → List Op → Arc
arc_from s α t ops = record { source = s; letter = α; target = t; ops = ops }

-- an added empty move, from s to t
abbrev pub empty_move : ℕ → ℕ → Arc
empty_move s t = arc_from s none t read_zero

-- states moved by k
abbrev pub moved : ℕ → Arc → Arc
moved k a = arc_from (k + a.source) a.letter (k + a.target) a.ops

-- registers from 1 up moved by k
abbrev pub moved_register : ℕ → ℕ → ℕ
moved_register k zero = 0
moved_register k (suc i) = suc (i + k)

-- an operation on a register that is moved by k
abbrev pub moved_op : ℕ → Op → Op
moved_op k (reads i γ) = reads (moved_register k i) γ
moved_op k (writes i γ) = writes (moved_register k i) γ

-- states moved by s, registers by k
abbrev pub moved_arc : ℕ → ℕ → Arc → Arc
moved_arc s k a = arc_from (s + a.source) a.letter (s + a.target) (map (moved_op k) a.ops)

-- the numbers of the final states, ascending, the first state having the number i
unfoldable pub final_states : ℕ → List Bool → List ℕ
final_states i [] = []
final_states i (true ∷ l) = i ∷ final_states (suc i) l
final_states i (false ∷ l) = final_states (suc i) l

-- ---- union
-- a new state 0, not final, with an empty move into each; the states of a move by 1, those of b by 1 and the states of a
unfoldable pub union : Automaton → Automaton → Automaton
union a b = record {
  alphabet = a.alphabet;
  registers = max a.registers b.registers;
  symbols = max a.symbols b.symbols;
  finals = false ∷ (a.finals ++ b.finals);
  arcs = empty_move 0 1 ∷ empty_move 0 (1 + states a) ∷ (map (moved 1) a.arcs ++ map (moved (1 + states a)) b.arcs);
}

-- ---- concatenation
-- an empty move from each final state of a to the first state of b, whose states and registers stand behind those of a; only b's final states stay
unfoldable pub concatenation : Automaton → Automaton → Automaton
unfolding final_states
concatenation a b = record {
  alphabet = a.alphabet;
  registers = a.registers + b.registers - 1;
  symbols = max a.symbols b.symbols;
  finals = replicate (states a) false ++ b.finals;
  arcs = a.arcs ++ (map (λ s. empty_move s (states a)) (final_states 0 a.finals) ++ map (moved_arc (states a) (a.registers - 1)) b.arcs);
}

-- ---- intersection: state i of a with state j of b is i * states b + j
-- the same letter, and not the empty move
unfoldable pub alike : Option ℕ → Option ℕ → Bool
unfolding same_letter
alike none β = false
alike (some a) β = same_letter (some a) β

-- has the arc no letter?
unfoldable pub is_empty_move : Option ℕ → Bool
is_empty_move none = true
is_empty_move (some a) = false

-- n is the number of states of b, k how far b's registers move
abbrev pub arc_both : ℕ → ℕ → Arc → Arc → Arc
arc_both n k x y = arc_from (x.source * n + y.source) x.letter (x.target * n + y.target) (x.ops ++ map (moved_op k) y.ops)

-- an empty move x of a, with the state j of b unmoved
abbrev pub arc_left : ℕ → Arc → ℕ → Arc
arc_left n x j = arc_from (x.source * n + j) none (x.target * n + j) x.ops

-- an empty move y of b, its registers moved by k, with the state i of a unmoved
abbrev pub arc_right : ℕ → ℕ → Arc → ℕ → Arc
arc_right n k y i = arc_from (i * n + y.source) none (i * n + y.target) (map (moved_op k) y.ops)

-- each lettered arc of a with each arc of b of that letter, a's operations first
unfoldable pub both_arcs : Automaton → Automaton → List Arc
unfolding flat_map alike keep
both_arcs a b = flat_map (λ x. flat_map (λ y. keep (alike x.letter y.letter) (arc_both (states b) (a.registers - 1) x y ∷ [])) b.arcs) a.arcs

-- each empty move of a with each state of b
unfoldable pub left_arcs : Automaton → Automaton → List Arc
unfolding flat_map count_from is_empty_move keep
left_arcs a b = flat_map (λ x. keep (is_empty_move x.letter) (map (arc_left (states b) x) (count_from 0 (states b)))) a.arcs

-- each empty move of b with each state of a
unfoldable pub right_arcs : Automaton → Automaton → List Arc
unfolding flat_map count_from is_empty_move keep
right_arcs a b = flat_map (λ y. keep (is_empty_move y.letter) (map (arc_right (states b) (a.registers - 1) y) (count_from 0 (states a)))) b.arcs

-- final where both are
unfoldable pub both_final : List Bool → List Bool → List Bool
both_final [] F = []
both_final (x ∷ S) F = map (λ y. x && y) F ++ both_final S F

-- arcs in this order: lettered ones of both, empty moves of a, empty moves of b
unfoldable pub intersection : Automaton → Automaton → Automaton
unfolding both_final both_arcs left_arcs right_arcs
intersection a b = record {
  alphabet = a.alphabet;
  registers = a.registers + b.registers - 1;
  symbols = max a.symbols b.symbols;
  finals = both_final a.finals b.finals;
  arcs = both_arcs a b ++ (left_arcs a b ++ right_arcs a b);
}

-- ---- closure
-- 0 into the registers 1 to n - 1, ascending; with one register, the read of register 0
unfoldable pub clearing : ℕ → List Op
unfolding count_from
clearing zero = read_zero
clearing (suc zero) = read_zero
clearing (suc (suc n)) = map (λ i. writes i 0) (count_from 1 (suc n))

-- the new state 0 is initial and final; a's initial state is not made final
unfoldable pub closure : Automaton → Automaton
unfolding final_states clearing
closure a = record {
  alphabet = a.alphabet;
  registers = a.registers;
  symbols = a.symbols;
  finals = true ∷ a.finals;
  arcs = empty_move 0 1 ∷ (map (moved 1) a.arcs ++ map (λ s. arc_from (1 + s) none 1 (clearing a.registers)) (final_states 0 a.finals));
}
