-- `table_live::walk_listed` meets its contract. The loop's invariant: what is left of the word leads from the set where the whole word leads
-- from the first one (Walking of proofs/WalkWord.antt), for all letters and plain arcs that the words tell.
use mathlib.Core.Path.{◌≡◌}
use mathlib.Core.List.{List}
use Prim.Native.Nat.{ℕ, ◌≤◌}
use lib.ListN.{length}
use Rattle.automata.specs.Counting.{Apart}
use Rattle.automata.specs.Letters.{keys}
use Rattle.automata.specs.Live.{PlainArc}
use Rattle.word_layout.specs.declared.Block.{Block}
use Rattle.word_sets.specs.Sets.{ε_closed_set}
use Rattle.table_sets.specs.Stepping.{FromList, Held}
use Rattle.table_live.specs.Steps.{LetterNumbers}
use Rattle.table_live.proofs.WalkWord.{Walking}
use Rattle.table_live.proofs.walk_listed.Given as goal

abbrev pub Leads : (word w : List ℕ) (block : Block) (letters : ℕ) (set₀ set : List ℕ) (i : ℕ) → Type 0
Leads word w block letters set₀ set i =
    (alphabet : List ℕ) (arcs : List PlainArc) → LetterNumbers alphabet w → Apart (keys alphabet) → length alphabet ≡ letters
    → Held block.count letters arcs (FromList w block.base block.count block.plain) → ε_closed_set block.count arcs set₀ → Walking alphabet arcs block.count word set₀ set i

abbrev pub invariant-loop-byte : goal.invariant-loop-byte
invariant-loop-byte l = (l.byte-index ≤ length l.word) × Leads l.word l.w l.block l.letters l.initial.set l.set l.byte-index
