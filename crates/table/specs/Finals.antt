-- Finals: which of the configurations in the words are final, by the flags in the file (document 01, 'The book file', final flags).
use Rattle.std.specs.Prelude.{Bool, List, ◌+◌, ◌/◌, ◌^◌, ℕ, get_or}
use Rattle.word_layout.specs.Layout.{configs}
use Rattle.format.specs.Decoding.{is_final}
use Rattle.file_fields.specs.Parts.{flags_at}
use Rattle.file_fields.specs.declared.Counts.{Counts}

-- the state of configuration i, which stands above the 32 bits of its registers
abbrev pub state_in : List ℕ → ℕ → ℕ
state_in w i = get_or w (configs + i) 0 / 2 ^ 32

-- where the flag of a state stands in the file
abbrev pub flag_place : Counts → ℕ → ℕ
flag_place c s = flags_at c + s

-- is configuration i final?
abbrev pub is_final_in : List ℕ → Counts → List ℕ → ℕ → Bool
is_final_in file c w i = is_final (get_or file (flag_place c (state_in w i)) 0)
