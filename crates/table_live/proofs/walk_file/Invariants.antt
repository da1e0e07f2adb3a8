-- `table_live::walk_file` meets its contract. The loop's invariant: the words are as they were but for the sets of the letters, and what is
-- left of the word leads from the set where the whole word leads from the first one (Walking of proofs/WalkWord.antt).
use mathlib.Core.List.{List}
use Prim.Native.Nat.{◌+◌, ◌≤◌}
use lib.ListN.{length}
use Rattle.automata.specs.Live.{PlainArc}
use Rattle.file_fields.specs.Parts.{letter_bytes}
use Rattle.word_layout.specs.Layout.{first_sets}
use Rattle.word_fields.specs.Frame.{Kept}
use Rattle.word_sets.specs.Sets.{ε_closed_set}
use Rattle.table_live.specs.Steps.{Outgoing}
use Rattle.table_live.proofs.WalkWord.{Walking}
use Rattle.table_live.proofs.walk_file.Given as goal

abbrev pub invariant-loop-byte : goal.invariant-loop-byte
invariant-loop-byte l = (l.byte-index ≤ length l.word) × (Kept first_sets (first_sets + 256) l.initial.w l.w
    × ((arcs : List PlainArc) → Outgoing l.file l.c l.initial.w l.block arcs → ε_closed_set l.block.count arcs l.initial.set → Walking (letter_bytes l.c l.file) arcs l.block.count l.word l.initial.set l.set l.byte-index))
