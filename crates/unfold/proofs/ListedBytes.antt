-- ListedBytes: the bytes of the plain arcs of an open file, one step and the end, as the writers' loops meet them.
use mathlib.Core.Path.{◌∙◌, ◌≡◌, ap}
use mathlib.Core.List.{List, [], ◌++◌, map}
use Prim.Native.Nat.{◌+◌, ◌-◌, ◌<◌, ◌≤◌, ℕ}
use Rattle.automata.specs.Unfolding.{as_arc}
use Rattle.automata.proofs.Laws.{map-append}
use Rattle.format.specs.Encoding.{arc_bytes, arcs_bytes}
use Rattle.word_layout.specs.declared.Block.{Block}
use Rattle.file_writing.proofs.Laws.{arcs-append}
use Rattle.table.specs.Face.{plain_at, plains_between, plains_leaving, plains_of_many}
use Rattle.unfold.proofs.CountedLists.{counted_next, counted_none, joined-next, joined-none}

module _ (w : List ℕ) (block : Block) where
  -- from configuration s
  pub listed_next : (s i to : ℕ) → i < to → arcs_bytes (map as_arc (plains_between w block s i to)) ≡ arc_bytes (as_arc (plain_at w block s i)) ++ arcs_bytes (map as_arc (plains_between w block s (i + 1) to))
  unfolding arcs_bytes plains_between
  listed_next s i to h = rw (counted_next (plain_at w block s) i to h)

  pub listed-none : (s i to : ℕ) → to ≤ i → arcs_bytes (map as_arc (plains_between w block s i to)) ≡ []
  unfolding arcs_bytes plains_between
  listed-none s i to h = rw (counted_none (plain_at w block s) i to h)

  -- from each of the configurations that are left
  pub many-next : (k s : ℕ) → s < k → arcs_bytes (map as_arc (plains_of_many w block s (k - s))) ≡ arcs_bytes (map as_arc (plains_leaving w block s)) ++ arcs_bytes (map as_arc (plains_of_many w block (s + 1) (k - (s + 1))))
  unfolding plains_of_many
  many-next k s h = rw (joined-next (plains_leaving w block) s k h)
      (ap arcs_bytes (map-append as_arc (plains_leaving w block s) (plains_of_many w block (s + 1) (k - (s + 1)))) ∙ arcs-append (map as_arc (plains_leaving w block s)) (map as_arc (plains_of_many w block (s + 1) (k - (s + 1)))))

  pub many-none : (k s : ℕ) → k ≤ s → arcs_bytes (map as_arc (plains_of_many w block s (k - s))) ≡ []
  unfolding arcs_bytes plains_of_many
  many-none k s h = rw (joined-none (plains_leaving w block) s k h)
