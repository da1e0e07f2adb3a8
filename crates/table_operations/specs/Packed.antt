-- Packed: configurations as numbers, and what arcs make of them, computed from the bytes of a file. The code computes these
-- definitions; proofs/PackedMeaning.antt says that they are the images of those of crate automata, so no promise cites them.
use Rattle.std.specs.Prelude.{◌%◌, ◌*◌, ◌+◌, ◌-◌, ◌/◌, ◌<◌, ◌^◌, suc, zero, ℕ, eqb, drop, get_or, cond, List, [], ◌∷◌, map, Option, None, Some}
use Rattle.std.proofs.Math.Option as math
use Rattle.automata.specs.Automaton.{Configuration}
use Rattle.automata.specs.Lists.{prepend}
use Rattle.format.specs.Decoding.{letter_of}
use Rattle.file_fields.specs.Parts.{arc_size, first_arc}
use Rattle.file_fields.specs.declared.Counts.{Counts}

-- the contents of the registers as one number, register 0 lowest, four bits each
unfoldable pub pack_contents : List ℕ → ℕ
pack_contents [] = 0
pack_contents (x ∷ l) = x + 16 * pack_contents l

-- a configuration as one number: the contents in the low 32 bits, and the state above them
abbrev pub pack : Configuration → ℕ
pack c = pack_contents c.contents + c.state * 2 ^ 32

-- what register q of the contents w holds
abbrev pub digit : ℕ → ℕ → ℕ
digit w q = w / 2 ^ (4 * q) % 16

-- the contents w once v is written to register q
abbrev pub digit_put : ℕ → ℕ → ℕ → ℕ
digit_put w q v = w - digit w q * 2 ^ (4 * q) + v * 2 ^ (4 * q)

-- ---- operations
-- what the operation of the two bytes x and y leaves of the contents w: a read fails unless the register holds its symbol
unfoldable pub act_packed : ℕ → ℕ → ℕ → Option ℕ
act_packed x y w = cond (eqb (x / 16) 0) (cond (eqb (digit w (x % 16)) y) (Some w) None) (Some (digit_put w (x % 16) y))

-- where something is left, f goes on with it
abbrev pub and_then : Option ℕ → (ℕ → Option ℕ) → Option ℕ
and_then None f = None
and_then (Some v) f = f v

-- what the p operations at the front of l leave of the contents w, one after the other
unfoldable pub perform_packed : ℕ → List ℕ → ℕ → Option ℕ
unfolding act_packed
perform_packed zero l w = Some w
perform_packed (suc p) l w = and_then (act_packed (get_or l 0 0) (get_or l 1 0) w) (λ v. perform_packed p (drop 2 l) v)

-- the contents that are left fit the 32 bits of eight registers
abbrev pub Fitting : Option ℕ → Type 0
Fitting None = Unit {0}
Fitting (Some v) = v < 2 ^ 32

-- ---- arcs
-- a passing arc: its letter, and the configuration that it leads to
pub record Hop : Type 0 where
  pub letter : math.Option ℕ
  pub to : ℕ

-- the arc with this letter to the state `target`, where its operations left something
abbrev pub hop_with : Option ℕ → math.Option ℕ → ℕ → math.Option Hop
hop_with None letter target = math.none
hop_with (Some v) letter target = math.some (record { letter = letter; to = v + target * 2 ^ 32 })

-- what the arc at the front of l makes of the configuration w, whatever w's state is
unfoldable pub hop : List ℕ → ℕ → math.Option Hop
unfolding perform_packed letter_of
hop l w = hop_with (perform_packed (get_or l 3 0) (drop 4 l) (w % 2 ^ 32)) (letter_of (get_or l 1 0)) (get_or l 2 0)

-- the same, or nothing where w's state is not the arc's from-state
abbrev pub hop_from : List ℕ → ℕ → math.Option Hop
hop_from l w = cond (eqb (get_or l 0 0) (w / 2 ^ 32)) (hop l w) math.none

-- what the m arcs at the front of l make of w
unfoldable pub hops : ℕ → List ℕ → ℕ → List Hop
unfolding hop
hops zero l w = []
hops (suc m) l w = prepend (hop_from l w) (hops m (drop (arc_size l) l) w)

-- what the arcs of a file with the counts c make of w
abbrev pub hops_in : Counts → List ℕ → ℕ → List Hop
hops_in c file w = hops c.arcs (drop (first_arc c) file) w

-- the configurations that passing arcs lead to
abbrev pub tos : List Hop → List ℕ
tos hs = map (λ h. h.to) hs
