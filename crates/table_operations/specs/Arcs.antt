-- Arcs: the places of a file's arcs, and what exploring notes of them in the words.
use Rattle.std.specs.Prelude.{◌≡◌, ◌*◌, ◌+◌, ◌≤◌, suc, zero, ℕ, drop, get_or, length, List, [], ◌∷◌}
use Rattle.word_layout.specs.Layout.{arc_heads, arc_nexts, offsets}
use Rattle.format.specs.Placed.{Lies, OkOps}
use Rattle.file_fields.specs.Parts.{arc_size, first_arc}
use Rattle.file_fields.specs.declared.Counts.{Counts}
use Rattle.word_fields.specs.Chains.{Chain}
use Rattle.word_fields.specs.Fields.{field}

-- the arcs of a file with the counts c stand whole in it, behind no more letters and states than there may be, so that a place fits 16 bits
pub record Walkable (c : Counts) (file : List ℕ) : Type 0 where
  pub letters : c.letters ≤ 64
  pub states : c.states ≤ 256
  pub lies : Lies c.registers c.arcs (first_arc c) file

-- an arc stands whole at a place: its operations have registers below 8 and symbols below 16
pub record ArcAt (file : List ℕ) (at : ℕ) : Type 0 where
  pub fits : at + 4 + 2 * get_or file (at + 3) 0 ≤ length file
  pub ok : OkOps 8 (get_or file (at + 3) 0) (drop (at + 4) file)

-- the places of m arcs, the first of which is `at`
unfoldable pub places : ℕ → ℕ → List ℕ → List ℕ
places zero at file = []
places (suc m) at file = at ∷ places m (at + arc_size (drop at file)) file

-- f of the numbers below n, the last first
unfoldable pub falling : (ℕ → ℕ) → ℕ → List ℕ
falling f zero = []
falling f (suc n) = f n ∷ falling f n

-- the place that the words have for entry j
abbrev pub place_of : List ℕ → ℕ → ℕ
place_of w j = field w offsets j

-- the words have the places of the arcs of a file with the counts c, that of the first arc last
abbrev pub Indexed : Counts → List ℕ → List ℕ → Type 0
Indexed c file w = places c.arcs (first_arc c) file ≡ falling (place_of w) c.arcs

-- the words have the chains of these arcs by from-state
abbrev pub Linked : Counts → List ℕ → List ℕ → Type 0
Linked c file w = Chain (λ j. get_or file (place_of w j) 0) w arc_heads arc_nexts 256 c.arcs
