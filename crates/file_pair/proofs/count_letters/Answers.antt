-- `file_pair::count_letters` meets its contract: lists that agree have as many letters together as the first, and the others are counted.
use mathlib.Core.Path.{◌∙◌, ◌≡◌, sym}
use Prim.Native.Nat.{◌-◌}
use native.Mathlib.Omega.{arith}
use lib.ListN.{drop, take}
use Rattle.format.specs.Decoding.{automaton_of}
use Rattle.file_laws.proofs.Laws.{lent_alphabet, valid-letters}
use Rattle.file_pair.proofs.LetteredLaws.{agree_many, letters-many}
use Rattle.file_pair.proofs.count_letters.Goals as goal
use Rattle.file_pair.proofs.count_letters.Goals.{After-flags_at-other}

pub returns-then-agree : goal.returns-then-agree
returns-then-agree c = sym (agree_many c.args.first.now c.args.second.now c.args.a c.requires.0 (sym c.if-agree.true ∙ c.requires.2))

-- the lists lent are the letters of the two automata
lent₁ : (f : goal.After-flags_at-other) → take (f.flags_at-end.result - 12) (drop 12 f.args.first.now) ≡ (automaton_of f.args.first.now).alphabet
lent₁ f = lent_alphabet f.args.first.now f.args.a f.requires.0 f.flags_at-end.result f.flags_at-end.ensures

lent₂ : (f : goal.After-flags_at-other) → take (f.flags_at-other.result - 12) (drop 12 f.args.second.now) ≡ (automaton_of f.args.second.now).alphabet
lent₂ f = lent_alphabet f.args.second.now f.args.b f.requires.1 f.flags_at-other.result f.flags_at-other.ensures

pub flags_at-end-requires : goal.flags_at-end-requires
flags_at-end-requires c = (valid-letters c.args.first.now c.args.a c.requires.0).0

pub flags_at-other-requires : goal.flags_at-other-requires
flags_at-other-requires c = (valid-letters c.args.second.now c.args.b c.requires.1).0

pub slice_bounds-count_joined-end : goal.slice_bounds-count_joined-end
slice_bounds-count_joined-end c = omega (arith, c.flags_at-end.ensures, (valid-letters c.args.first.now c.args.a c.requires.0).1)

pub slice_bounds-count_joined-end-2 : goal.slice_bounds-count_joined-end-2
slice_bounds-count_joined-end-2 c = omega (arith, c.flags_at-other.ensures, (valid-letters c.args.second.now c.args.b c.requires.1).1)

pub count_joined-requires : goal.count_joined-requires
count_joined-requires c = rw (lent₁ (goal.at.count_joined-requires c).After-flags_at-other, lent₂ (goal.at.count_joined-requires c).After-flags_at-other)
    (omega (arith, letters-many c.args.first.now c.args.a c.requires.0, (valid-letters c.args.first.now c.args.a c.requires.0).0, letters-many c.args.second.now c.args.b c.requires.1, (valid-letters c.args.second.now c.args.b c.requires.1).0))

pub returns : goal.returns
returns c = rw (lent₁ (goal.at.returns c).After-flags_at-other, lent₂ (goal.at.returns c).After-flags_at-other) at c.count_joined.ensures
