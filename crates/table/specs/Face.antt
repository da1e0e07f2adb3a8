-- Face: what crates above read of an open file's block. That it is the automaton's is the law of proofs/FaceLaws.antt.
use mathlib.Core.List.{List, flat_map, map}
use Rattle.std.specs.Prelude.{◌-◌, ℕ}
use Rattle.automata.specs.Lists.{count_from}
use Rattle.automata.specs.Live.{PlainArc}
use Rattle.format.specs.Decoding.{letter_of}
use Rattle.word_layout.specs.declared.Block.{Block}
use Rattle.table_sets.specs.Stepping.{end_at, plain_letter_at, start_at, target_at}

-- plain arc number i, which leaves configuration s
unfoldable pub plain_at : List ℕ → Block → (s i : ℕ) → PlainArc
plain_at w block s i = record { source = s; letter = letter_of (plain_letter_at w block.base i); target = target_at w block.base i }

-- the number of the first plain arc that leaves configuration s
unfoldable pub plain_start : List ℕ → Block → (s : ℕ) → ℕ
unfolding start_at
plain_start w block s = start_at w block.base s

-- the number behind the last plain arc that leaves configuration s
unfoldable pub plain_end : List ℕ → Block → (s : ℕ) → ℕ
unfolding end_at
plain_end w block s = end_at w block.base block.count block.plain s

-- the plain arcs from number `from` to before `to`, which leave configuration s
unfoldable pub plains_between : List ℕ → Block → (s from to : ℕ) → List PlainArc
unfolding plain_at
plains_between w block s from to = map (plain_at w block s) (count_from from (to - from))

-- the plain arcs that leave configuration s
abbrev pub plains_leaving : List ℕ → Block → (s : ℕ) → List PlainArc
plains_leaving w block s = plains_between w block s (plain_start w block s) (plain_end w block s)

-- the plain arcs that leave the n configurations from number s on
unfoldable pub plains_of_many : List ℕ → Block → (s n : ℕ) → List PlainArc
unfolding plains_between count_from
plains_of_many w block s n = flat_map (plains_leaving w block) (count_from s n)
