-- Performing: what an automaton does next, computed.
-- Renders document 01, 'Runs and slips': operations succeed in order, a read wants that symbol there, a write replaces it;
-- the first that fails drops the arc. Arcs are tried in the order of the file.
use Rattle.std.specs.Prelude.{ℕ, List, [], ◌∷◌, Bool, false, length, set, eqb, ltb}
use Rattle.std.proofs.Math.Option.{Option, none, some, map, bind}
use Rattle.std.proofs.Math.ListN.{get_elem?}
use Rattle.automata.specs.Lists.{only, collect}
use Rattle.automata.specs.Automaton.{Op, reads, writes, Arc, Automaton, Configuration}

-- does the register contain the symbol?
abbrev pub holds : Option ℕ → ℕ → Bool
holds none γ = false
holds (some x) γ = eqb x γ

-- the contents after one operation, or none where it fails
unfoldable pub act : Op → List ℕ → Option (List ℕ)
act (reads i γ) u = only (holds (get_elem? u i) γ) u
act (writes i γ) u = only (ltb i (length u)) (set u i γ)

-- the contents after operations in order, or none where one of them fails
unfoldable pub perform : List Op → List ℕ → Option (List ℕ)
unfolding act bind
perform [] u = some u
perform (o ∷ os) u = bind (act o u) (λ v. perform os v)

-- a passing arc: its letter, and the configuration that it leads to
pub record Move : Type 0 where
  pub letter : Option ℕ
  pub to : Configuration

-- what an arc makes of a configuration, or none where it does not pass
unfoldable pub along : Configuration → Arc → Option Move
unfolding perform
along c a =
    bind (only (eqb a.source c.state) c.contents) λ u.
    map (λ v. record { letter = a.letter; to = record { state = a.target; contents = v } }) (perform a.ops u)

-- all passing arcs of a configuration
unfoldable pub successors : Automaton → Configuration → List Move
unfolding along collect
successors x c = collect (along c) x.arcs
