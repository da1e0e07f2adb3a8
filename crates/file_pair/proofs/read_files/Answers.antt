-- `file_pair::read_files` meets its contract.
use mathlib.Core.Path.{◌∙◌, ◌≡◌, ap, sym}
use native.Mathlib.Omega.{arith}
use Rattle.std.specs.Prelude.{Err, Ok}
use Rattle.format.specs.Reading.{reading_of}
use Rattle.file_fields.proofs.Laws.{lent_letters}
use Rattle.file_laws.proofs.Laws.{valid-letters}
use Rattle.file_pair.proofs.PairLaws.{first-fault, second-fault, valid-files}
use Rattle.file_pair.proofs.read_files.Goals as goal
use Rattle.file_pair.proofs.read_files.Goals.{In-Ok-right}

-- a file at fault, the first and then the second
pub returns-in_default : goal.returns-in_default
returns-in_default c = ap Err c.of.ensures ∙ sym (first-fault _ _ (sym c.read-left.ensures ∙ c.unwrap_err.ensures))

pub returns-in_default-right : goal.returns-in_default-right
returns-in_default-right c = let left = sym c.read-left.ensures ∙ c.in-Ok.is in
    ap Err c.of-in_default-right.ensures ∙ sym (second-fault _ _ left (sym c.read-right.ensures ∙ c.unwrap_err-in_default-right.ensures))

-- what reading answered, and the letters then
left-valid : (c : goal.In-Ok-right) → reading_of c.args.first.now ≡ Ok c.in-Ok.a
left-valid c = sym c.read-left.ensures ∙ c.in-Ok.is

right_valid : (c : goal.In-Ok-right) → reading_of c.args.second.now ≡ Ok c.in-Ok-right.b
right_valid c = sym c.read-right.ensures ∙ c.in-Ok-right.is

pub flags_at-end-requires : goal.flags_at-end-requires
flags_at-end-requires c = omega (arith, valid-letters _ _ (left-valid c))

pub flags_at-other-requires : goal.flags_at-other-requires
flags_at-other-requires c = omega (arith, valid-letters _ _ (right_valid (goal.at.flags_at-other-requires c).In-Ok-right))

pub slice_bounds-same_letters-end : goal.slice_bounds-same_letters-end
slice_bounds-same_letters-end c = omega (arith, valid-letters _ _ (left-valid (goal.at.slice_bounds-same_letters-end c).In-Ok-right))

pub slice_bounds-same_letters-end-2 : goal.slice_bounds-same_letters-end-2
slice_bounds-same_letters-end-2 c = omega (arith, valid-letters _ _ (right_valid (goal.at.slice_bounds-same_letters-end-2 c).In-Ok-right))

pub returns : goal.returns
returns c = sym (valid-files c.args.first.now c.args.second.now (left-valid (goal.at.returns c).In-Ok-right) (right_valid (goal.at.returns c).In-Ok-right) ∙ rw (c.same_letters.ensures, c.flags_at-end.ensures, c.flags_at-other.ensures, lent_letters c.in-Ok.a c.args.first.now, lent_letters c.in-Ok-right.b c.args.second.now))
