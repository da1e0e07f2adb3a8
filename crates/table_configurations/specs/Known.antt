-- Known: the configurations that the walk knows and the plain arcs that it has met, said of packed configurations.
use Rattle.std.specs.Prelude.{suc, zero, ℕ, eqb, List, [], ◌++◌, ◌∷◌}
use Rattle.std.proofs.Math.ListN.{get_elem?}
use Rattle.std.proofs.Math.Option.{Option, none, some}
use Rattle.automata.specs.Exploration.{add, known, number}
use Rattle.automata.specs.Live.{PlainArc}
use Rattle.table_operations.specs.Packed.{Hop, hops, tos}

-- the plain arc from configuration c by the letter α to t
abbrev pub plain_arc : ℕ → Option ℕ → ℕ → PlainArc
plain_arc c α t = record { source = c; letter = α; target = t }

-- the plain arcs of configuration c, its targets numbered as they come
unfoldable pub plains_of : ℕ → List ℕ → List Hop → List PlainArc
unfolding number add
plains_of c l [] = []
plains_of c l (h ∷ hs) = plain_arc c h.letter (number eqb h.to l) ∷ plains_of c (add eqb l h.to) hs

-- the configurations that the m arcs at the front of l lead to from w
unfoldable pub next_packed : ℕ → List ℕ → ℕ → List ℕ
unfolding hops
next_packed m l w = tos (hops m l w)

-- the configurations once the first n have been walked
unfoldable pub known_packed : ℕ → List ℕ → ℕ → List ℕ
unfolding next_packed known
known_packed m l n = known eqb (next_packed m l) (0 ∷ []) n

-- what the m arcs at the front of l make of the configuration that is next, where there is one
abbrev pub hops_at : ℕ → List ℕ → Option ℕ → List Hop
hops_at m l none = []
hops_at m l (some w) = hops m l w

-- the plain arcs met once the first configurations have been walked, as many as the last argument says
unfoldable pub plains_up_to : ℕ → List ℕ → ℕ → List PlainArc
unfolding known_packed plains_of hops
plains_up_to m l zero = []
plains_up_to m l (suc c) = plains_up_to m l c ++ plains_of c (known_packed m l c) (hops_at m l (get_elem? (known_packed m l c) c))
