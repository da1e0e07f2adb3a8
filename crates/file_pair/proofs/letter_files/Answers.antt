-- `file_pair::letter_files` meets its contract: the lists lent are the files' letters.
use mathlib.Core.Path.{◌≡◌}
use Prim.Native.Nat.{◌-◌}
use native.Mathlib.Omega.{arith}
use lib.ListN.{drop, take}
use Rattle.format.specs.Decoding.{automaton_of}
use Rattle.file_laws.proofs.Laws.{lent_alphabet, valid-letters}
use Rattle.file_pair.proofs.LetteredLaws.{letters-many}
use Rattle.file_pair.proofs.letter_files.Goals as goal
use Rattle.file_pair.proofs.letter_files.Goals.{After-flags_at-other}

-- the lists lent are the letters of the two automata
lent₁ : (f : goal.After-flags_at-other) → take (f.flags_at-end.result - 12) (drop 12 f.args.first.now) ≡ (automaton_of f.args.first.now).alphabet
lent₁ f = lent_alphabet f.args.first.now f.args.a f.requires.first f.flags_at-end.result f.flags_at-end.ensures

lent₂ : (f : goal.After-flags_at-other) → take (f.flags_at-other.result - 12) (drop 12 f.args.second.now) ≡ (automaton_of f.args.second.now).alphabet
lent₂ f = lent_alphabet f.args.second.now f.args.b f.requires.second f.flags_at-other.result f.flags_at-other.ensures

pub flags_at-end-requires : goal.flags_at-end-requires
flags_at-end-requires c = (valid-letters c.args.first.now c.args.a c.requires.first).0

pub flags_at-other-requires : goal.flags_at-other-requires
flags_at-other-requires c = (valid-letters c.args.second.now c.args.b c.requires.second).0

pub slice_bounds-join_letters-end : goal.slice_bounds-join_letters-end
slice_bounds-join_letters-end c = omega (arith, c.flags_at-end.ensures, (valid-letters c.args.first.now c.args.a c.requires.first).1)

pub slice_bounds-join_letters-end-2 : goal.slice_bounds-join_letters-end-2
slice_bounds-join_letters-end-2 c = omega (arith, c.flags_at-other.ensures, (valid-letters c.args.second.now c.args.b c.requires.second).1)

pub join_letters-requires : goal.join_letters-requires
join_letters-requires c = rw (lent₁ (goal.at.join_letters-requires c).After-flags_at-other, lent₂ (goal.at.join_letters-requires c).After-flags_at-other) (omega (arith, letters-many c.args.second.now c.args.b c.requires.second, (valid-letters c.args.second.now c.args.b c.requires.second).0), c.requires.few)

pub returns : goal.returns
returns c = let j = rw (lent₁ (goal.at.returns c).After-flags_at-other, lent₂ (goal.at.returns c).After-flags_at-other) at c.join_letters.ensures in record { arrays = c.join_letters.ensures.arrays; few = omega (arith, j.count, c.requires.few); all = j.letters; numbers = (rw (letters-many c.args.first.now c.args.a c.requires.first) at j.first, rw (letters-many c.args.second.now c.args.b c.requires.second) at j.second) }
