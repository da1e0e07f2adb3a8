-- Unfolding: the configurations of an automaton, numbered; its plain arcs; the automaton without registers that they make.
-- Renders document 01, 'Unfolding': configurations are walked in number order, arcs in file order, each new target gets the
-- next number, each passing arc gives one plain arc. n is a limit on the walk; document 01's is 256.
use Rattle.std.specs.Prelude.{ℕ, suc, List, [], ◌∷◌, ◌++◌, map, Bool, false, ◌&&◌, eqb, length}
use Rattle.std.proofs.Math.Option.{Option, none, some}
use Rattle.automata.specs.Lists.{collect, only, same_by}
use Rattle.automata.specs.Automaton.{Op, reads, Arc, Automaton, Configuration, start}
use Rattle.automata.specs.Words.{spelling}
use Rattle.automata.specs.Performing.{Move, successors}
use Rattle.automata.specs.Exploration.{known, number}
use Rattle.automata.specs.Live.{PlainArc, live, in?, count, meets}

-- are two configurations the same, by state and contents?
unfoldable pub same_configuration : Configuration → Configuration → Bool
unfolding same_by
same_configuration c d = eqb c.state d.state && same_by eqb c.contents d.contents

-- the configurations that passing arcs lead to, in the order of the file
unfoldable pub targets_of : Automaton → Configuration → List Configuration
unfolding successors
targets_of x c = map (λ m. m.to) (successors x c)

-- the configurations, in number order, that are known once n of them have been walked
unfoldable pub configurations : Automaton → ℕ → List Configuration
unfolding targets_of same_configuration known
configurations x n = known same_configuration (targets_of x) (start x ∷ []) n

-- the plain arcs that leave configuration number i
unfoldable pub plain_from : List Configuration → ℕ → List Move → List PlainArc
unfolding number same_configuration
plain_from all i [] = []
plain_from all i (m ∷ ms) = record { source = i; letter = m.letter; target = number same_configuration m.to all } ∷ plain_from all i ms

-- the plain arcs that leave the configurations cs, the first of which has the number i
unfoldable pub plain_all : Automaton → List Configuration → ℕ → List Configuration → List PlainArc
unfolding plain_from successors
plain_all x all i [] = []
plain_all x all i (c ∷ cs) = plain_from all i (successors x c) ++ plain_all x all (suc i) cs

-- all plain arcs, in the order met, repeats kept
unfoldable pub plain_arcs : Automaton → ℕ → List PlainArc
unfolding plain_all configurations
plain_arcs x n = plain_all x (configurations x n) 0 (configurations x n)

-- those that leave configuration number i, in their order
unfoldable pub leaving : ℕ → List PlainArc → List PlainArc
unfolding collect
leaving i arcs = collect (λ (a : PlainArc). only (eqb a.source i) a) arcs

-- which of the configurations are final
unfoldable pub final_set : Automaton → List Configuration → List Bool
final_set x cs = map (λ c. in? x.finals c.state) cs

-- ---- membership, by live sets
-- which of the at most n configurations are live after the letters w
unfoldable pub live_set : Automaton → ℕ → List ℕ → List Bool
unfolding plain_arcs live
live_set x n w = live (length (configurations x n)) (plain_arcs x n) w

-- is the word accepted?
unfoldable pub accepted : Automaton → ℕ → List ℕ → Bool
unfolding live_set final_set meets
accepted x n w = meets (live_set x n w) (final_set x (configurations x n))

-- what is said of a word of bytes: f of the letters that it spells, and `none-spelled` where it has a byte that is no letter; such a
-- word is not accepted and leaves nothing live
abbrev pub spelled_or : {A : Type 0} → A → (List ℕ → A) → Option (List ℕ) → A
spelled_or none-spelled f none = none-spelled
spelled_or none-spelled f (some w) = f w

-- is the word of bytes accepted?
unfoldable pub accepted_bytes : Automaton → ℕ → List ℕ → Bool
unfolding accepted spelling
accepted_bytes x n s = spelled_or false (accepted x n) (spelling x.alphabet s)

-- how many configurations are live after the word
unfoldable pub live_count : Automaton → ℕ → List ℕ → ℕ
unfolding live_set count spelling
live_count x n s = spelled_or 0 (λ w. count (live_set x n w)) (spelling x.alphabet s)

-- ---- the unfolded automaton: one register, one symbol, the same letter bytes; each arc has one operation, the read of register 0
-- the operations of an arc that needs none
abbrev pub read_zero : List Op
read_zero = reads 0 0 ∷ []

-- a plain arc as an arc of an automaton
abbrev pub as_arc : PlainArc → Arc
as_arc p = record { source = p.source; letter = p.letter; target = p.target; ops = read_zero }

-- a configuration is a state, final where its own state is
unfoldable pub unfolded : Automaton → ℕ → Automaton
unfolding plain_arcs final_set
unfolded x n = record { alphabet = x.alphabet; registers = 1; symbols = 1; finals = final_set x (configurations x n); arcs = map as_arc (plain_arcs x n) }
