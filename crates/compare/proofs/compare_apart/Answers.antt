-- `compare::compare_apart` meets its contract: the letters are too many, or the parts lent are their new numbers and
-- the letters of both.
use mathlib.Core.Path.{◌≡◌, refl}
use mathlib.Core.Bool.{false}
use Prim.Native.Nat.{◌-◌, ◌≤◌, ℕ}
use native.Mathlib.Omega.{arith}
use lib.ListN.{length, take}
use Rattle.automata.specs.Words.{same_letters}
use Rattle.std.specs.Prelude.{Ok}
use Rattle.format.specs.Decoding.{automaton_of}
use Rattle.format.specs.Reading.{reading_of}
use Rattle.file_laws.proofs.Laws.{valid-letters}
use Rattle.file_pair.specs.Lettered.{OverBoth}
use Rattle.file_pair.specs.Pair.{Joinable, letters_of}
use Rattle.file_pair.proofs.Laws.{files-valid, header-lettered, over-apart}
use Rattle.compare_promise.specs.Comparing.{table_refusals}
use Rattle.compare.proofs.OverLaws.{answers-over}
use Rattle.compare.proofs.Refusals.{files-both, letters-many}
use Rattle.compare.proofs.compare_apart.Goals as goal
use Rattle.compare.proofs.compare_apart.Goals.{After-letter_files-l, Else-count_letters-gt64, Start}

-- the files are valid
valid : (s : goal.Start) → (reading_of s.args.first.now ≡ Ok s.args.a) × (reading_of s.args.second.now ≡ Ok s.args.b) × (false ≡ same_letters (automaton_of s.args.first.now) (automaton_of s.args.second.now))
valid s = files-valid s.args.first.now s.args.second.now s.requires.0

-- and have at most 64 letters together
few : (e : goal.Else-count_letters-gt64) → length (letters_of e.args.first.now e.args.second.now) ≤ 64
few e = omega (arith, e.count_letters.ensures, e.if-count_letters-gt64.false)

pub count_letters-requires : goal.count_letters-requires
count_letters-requires c = valid (goal.at.count_letters-requires c).Start

-- they are too many
pub returns-then-count_letters-gt64 : goal.returns-then-count_letters-gt64
returns-then-count_letters-gt64 c = record { same = refl; answers = rw c.of_call.ensures (letters-many c.args.first.now c.args.second.now c.requires.0 c.args.word.now (omega (arith, c.count_letters.ensures, c.if-count_letters-gt64.true))) }

-- so they can be compared over the letters of both
joinable : (e : goal.Else-count_letters-gt64) → Joinable e.args.a e.args.b e.args.first.now e.args.second.now
joinable e = let valid' : (reading_of e.args.first.now ≡ Ok e.args.a) × (reading_of e.args.second.now ≡ Ok e.args.b) × (false ≡ same_letters (automaton_of e.args.first.now) (automaton_of e.args.second.now)) = files-valid e.args.first.now e.args.second.now e.requires.0 in
    let v = valid' in record { first = v.0; second = v.1; few = few e }

pub letter_files-l-requires : goal.letter_files-l-requires
letter_files-l-requires c = joinable c

-- a part that is lent from the first place on
lent : (n : ℕ) → n - 0 ≡ n
lent n = omega arith

over : (l : goal.After-letter_files-l) → OverBoth l.args.a l.args.b l.args.first.now l.args.second.now (take (l.args.a.letters - 0) l.letter_files-l.result.first) (take (l.args.b.letters - 0) l.letter_files-l.result.second) (take (l.letter_files-l.result.count - 0) l.letter_files-l.result.letters)
over l = let valid' : (reading_of l.args.first.now ≡ Ok l.args.a) × (reading_of l.args.second.now ≡ Ok l.args.b) × (false ≡ same_letters (automaton_of l.args.first.now) (automaton_of l.args.second.now)) = files-valid l.args.first.now l.args.second.now l.requires.0 in
    let few' : length (letters_of l.args.first.now l.args.second.now) ≤ 64 = omega (arith, l.count_letters.ensures, l.if-count_letters-gt64.false) in
    let joinable' : Joinable l.args.a l.args.b l.args.first.now l.args.second.now = let v = valid' in record { first = v.0; second = v.1; few = few' } in
    rw (lent l.args.a.letters, lent l.args.b.letters, lent l.letter_files-l.result.count) (over-apart (joinable') l.letter_files-l.ensures.numbers.0 l.letter_files-l.ensures.numbers.1 l.letter_files-l.ensures.all)

pub slice_bounds-compare_files-end : goal.slice_bounds-compare_files-end
slice_bounds-compare_files-end c = omega (arith, c.letter_files-l.ensures.arrays.1, (valid-letters c.args.first.now c.args.a (valid (goal.at.slice_bounds-compare_files-end c).Start).0).0)

pub slice_bounds-compare_files-end-2 : goal.slice_bounds-compare_files-end-2
slice_bounds-compare_files-end-2 c = omega (arith, c.letter_files-l.ensures.arrays.2, (valid-letters c.args.second.now c.args.b (valid (goal.at.slice_bounds-compare_files-end-2 c).Start).1).0)

pub slice_bounds-compare_files-end-3 : goal.slice_bounds-compare_files-end-3
slice_bounds-compare_files-end-3 c = omega (arith, c.letter_files-l.ensures.arrays.0, c.letter_files-l.ensures.few)

pub compare_files-requires : goal.compare_files-requires
compare_files-requires c = (header-lettered (over (goal.at.compare_files-requires c).After-letter_files-l).lettered, (c.requires.1, c.requires.2))

pub returns : goal.returns
returns c = record { same = c.compare_files.ensures.same; answers = files-both c.args.first.now c.args.second.now c.requires.0 (few (goal.at.returns c).Else-count_letters-gt64) (answers-over (table_refusals 256 2048 512) (over (goal.at.returns c).After-letter_files-l) c.compare_files.ensures.answers) }
