-- Building: what building the only automaton of a call answers.
use Rattle.std.specs.Prelude.{List, ℕ, ◌<◌, length, Option, Some, None}
use Rattle.automata.specs.Unfolding.{configurations}
use Rattle.file_fields.specs.declared.Counts.{Counts}
use Rattle.format.specs.Decoding.{automaton_of}
use Rattle.word_layout.specs.Layout.{only_block}
use Rattle.table_configurations.specs.declared.Sizes.{Sizes}
use Rattle.table.specs.Standing.{Stands}

-- there are more than 256 configurations, or the automaton stands in its block
abbrev pub PrunedBy : (file : List ℕ) (c : Counts) (w : List ℕ) → Option Sizes → Type 0
PrunedBy file c w None = 256 < length (configurations (automaton_of file) 256)
PrunedBy file c w (Some s) = Stands file c w (record { base = only_block; count = s.count; plain = s.plain })
