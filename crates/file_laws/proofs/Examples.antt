-- Examples: document 01's file T, and spoiled copies of it for each number of a file's fault, computed.
use mathlib.Core.Path.{◌≡◌, refl, sym, ap, ◌∙◌, subst}
use mathlib.Core.Bool.{true}
use mathlib.Core.List.Memᴰ
use mathlib.Core.List.{List, Memᴰ, [], ◌∷◌, ◌++◌, map}
use Prim.Native.Nat.{ℕ}
use lib.Dec.{eqb}
use lib.ListN.{take, set}
use Rattle.automata.specs.Examples.{automaton_t}
use Rattle.automata.specs.Lists.{Each, any}
use Rattle.automata.proofs.Laws.{any-iff, each-mem, eqb-iff}
use Rattle.file_fields.specs.Parts.{fault}
use Rattle.file_fields.proofs.Laws.{all_hold_lem}
use Rattle.std.specs.Prelude.{Ok, Result}
use Rattle.file_fields.specs.declared.Counts.{Counts}
use Rattle.file_fields.specs.declared.Fault.{Fault}
use Rattle.file_fields.specs.declared.Reason.TheVariants.{EndsInsideAField, Mark, Version, HeaderCount, LettersNotAscending, FinalFlag, ArcSource, ArcLetter, ArcTarget, ArcOperations, Operation, BytesAfterTheLastArc}
use Rattle.format.specs.Reading.{reading_of}
use Rattle.format.specs.Refusals.{fault_of, told_number}
use Rattle.file_laws.specs.Wanted.{fault_numbers}
use Rattle.format.specs.Decoding.{automaton_of}
use Rattle.format.specs.Encoding.{bytes_of}
use Rattle.file_laws.specs.Examples.{file_t}

pub valid-T : reading_of file_t ≡ Ok (record { letters = 3; states = 3; registers = 2; symbols = 3; arcs = 5 })
unfolding reading_of
valid-T = refl

pub decoded-T : automaton_of file_t ≡ automaton_t
unfolding automaton_of automaton_t
decoded-T = refl

pub written-T : bytes_of automaton_t ≡ file_t
unfolding bytes_of automaton_t
written-T = refl

-- T cut short, with a byte changed, or with one byte more
abbrev spoiled : List (List ℕ)
spoiled =
    [] ∷ take 11 file_t ∷ take 14 file_t ∷ take 17 file_t ∷ take 21 file_t ∷ take 47 file_t
    ∷ set file_t 2 0x43
    ∷ set file_t 4 1
    ∷ set file_t 5 65 ∷ set file_t 6 0 ∷ set file_t 7 2 ∷ set file_t 8 0 ∷ set file_t 8 9 ∷ set file_t 9 0 ∷ set file_t 9 17 ∷ set file_t 11 9
    ∷ set file_t 13 0x63 ∷ set file_t 12 0x45 ∷ set file_t 13 0x4D ∷ set file_t 12 0x4D
    ∷ set file_t 15 2
    ∷ set file_t 18 3 ∷ set file_t 19 3 ∷ set file_t 20 3 ∷ set file_t 21 0 ∷ set file_t 21 9
    ∷ set file_t 22 0x21 ∷ set file_t 22 0x12 ∷ set file_t 23 3 ∷ set file_t 22 0x10 ∷ set file_t 35 1
    ∷ (file_t ++ (0 ∷ []))
    ∷ []

-- their faults, each with its place
abbrev faults : List (Result Counts Fault)
faults =
    fault EndsInsideAField 0 ∷ fault EndsInsideAField 0 ∷ fault EndsInsideAField 12 ∷ fault EndsInsideAField 15 ∷ fault EndsInsideAField 18 ∷ fault EndsInsideAField 46
    ∷ fault Mark 0
    ∷ fault Version 3
    ∷ fault HeaderCount 5 ∷ fault HeaderCount 6 ∷ fault HeaderCount 6 ∷ fault HeaderCount 8 ∷ fault HeaderCount 8 ∷ fault HeaderCount 9 ∷ fault HeaderCount 9 ∷ fault HeaderCount 10
    ∷ fault LettersNotAscending 13 ∷ fault LettersNotAscending 12 ∷ fault LettersNotAscending 13 ∷ fault LettersNotAscending 12
    ∷ fault FinalFlag 15
    ∷ fault ArcSource 18 ∷ fault ArcLetter 19 ∷ fault ArcTarget 20 ∷ fault ArcOperations 21 ∷ fault ArcOperations 21
    ∷ fault Operation 22 ∷ fault Operation 22 ∷ fault Operation 22 ∷ fault Operation 22 ∷ fault Operation 34
    ∷ fault BytesAfterTheLastArc 48
    ∷ []

pub refused : map reading_of spoiled ≡ faults
unfolding reading_of
refused = refl

-- each number of a file's fault is that of one of them
each-told : Each (λ b. b ≡ true) (map (λ n. any (λ r. eqb n (told_number r)) faults) fault_numbers)
unfolding any
each-told = (all_hold_lem true (map (λ n. any (λ r. eqb n (told_number r)) faults) fault_numbers) refl).1

pub each-occurs : (n : ℕ) → Memᴰ n fault_numbers → (s : List ℕ) × (fault_of s ≡ n)
each-occurs n m =
    let one = (any-iff (λ r. eqb n (told_number r)) faults).0 (rw (each-mem (λ (k : ℕ). any (λ r. eqb k (told_number r)) faults ≡ true) each-told m) tt) in
    let whose = Memᴰ.of_map reading_of spoiled (subst (λ (l : List (Result Counts Fault)). Memᴰ one.0 l) (sym refused) one.1) in
    (whose.0, ap told_number whose.2 ∙ sym ((eqb-iff n (told_number one.0)).0 one.2))
