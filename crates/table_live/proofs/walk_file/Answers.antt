use mathlib.Core.Path.{◌≡◌, subst, sym}
use mathlib.Core.Logic.{inl, inr}
use mathlib.Core.List.{List}
use Prim.Native.Nat.{◌+◌, ◌≤◌}
use native.Mathlib.Omega.{arith}
use lib.Dec.{T}
use lib.ListN.{length}
use Rattle.automata.specs.Live.{PlainArc}
use Rattle.automata.proofs.Laws.{letter-lt}
use Rattle.file_fields.specs.Parts.{letter_bytes}
use Rattle.file_fields.proofs.Laws.{letters-length}
use Rattle.word_layout.specs.Layout.{first_sets}
use Rattle.word_fields.specs.Frame.{Kept}
use Rattle.word_fields.proofs.Laws.{kept_same, kept_then}
use Rattle.word_sets.specs.Sets.{ε_closed_set}
use Rattle.table_file_steps.proofs.Laws.{SameMap, map-kept}
use Rattle.table_live.specs.Steps.{LetterNumbers, Outgoing}
use Rattle.table_live.proofs.LetterTable.{numbers-kept}
use Rattle.table_live.proofs.StepFrame.{Outgoing-kept, Steppable-kept}
use Rattle.table_live.proofs.WalkWord.{Walking, walking-end, walking-foreign, walking-more, walking-nothing, walking_start}
use Rattle.table_live.proofs.walk_file.Goals as goal
use Rattle.table_live.proofs.walk_file.Goals.{After-letter_of-l, After-step_in_file-next, At-loop-byte}

pub loop-byte-init : goal.loop-byte-init
loop-byte-init c = (omega arith, (kept_same _ _ _, λ arcs out closed. walking_start closed))

pub letter_of-l-requires : goal.letter_of-l-requires
letter_of-l-requires c = omega (arith, c.requires.1.1.0, c.loop-byte.invariant.1.0.long)

pub shape_of-w-then-l-ge64 : goal.shape_of-w-then-l-ge64
shape_of-w-then-l-ge64 c = c.loop-byte.invariant.1.0.long

-- the steps so far have left the numbers of the letters
numbers : (l : goal.At-loop-byte) → LetterNumbers (letter_bytes l.args.c l.args.file.now) l.loop-byte.w
numbers l = numbers-kept (letter_bytes l.args.c l.args.file.now) l.loop-byte.invariant.1.0 (inl (omega arith)) l.requires.1.1.1.1.0

many : (l : goal.At-loop-byte) → length (letter_bytes l.args.c l.args.file.now) ≡ l.args.c.letters
many l = letters-length l.args.c l.args.file.now (omega (arith, l.requires.0.walkable.lies.fits))

few : (l : goal.At-loop-byte) → length (letter_bytes l.args.c l.args.file.now) ≤ 64
few l = omega (arith, many l, l.requires.1.1.1.0)

pub returns-then-l-ge64 : goal.returns-then-l-ge64
returns-then-l-ge64 c = record { kept = c.loop-byte.invariant.1.0; set = λ arcs out closed. walking-foreign (c.loop-byte.invariant.1.1 arcs out closed) c.loop-byte-test.true (c.letter_of-l.ensures.none (letter_bytes c.args.c c.args.file.now) (numbers (goal.at.returns-then-l-ge64 c).At-loop-byte) c.requires.1.1.1.1.1 (few (goal.at.returns-then-l-ge64 c).At-loop-byte) c.if-l-ge64.true) }

-- ---- a step
-- the steps so far have left the block and the building's tables
same : (l : goal.At-loop-byte) → SameMap l.args.block l.args.w.now l.loop-byte.w
same l = map-kept l.args.block (inr (omega arith)) l.requires.0.room.apart l.requires.0.findable.configured.few l.loop-byte.invariant.1.0

pub step_in_file-next-requires : goal.step_in_file-next-requires
step_in_file-next-requires c = (c.if-l-ge64.false, (Steppable-kept (same (goal.at.step_in_file-next-requires c).At-loop-byte) c.requires.0, c.requires.1.0))

-- the words behind the step
kept : (s : goal.After-step_in_file-next) → Kept first_sets (first_sets + 256) s.args.w.now s.step_in_file-next.new.w
kept s = kept_then s.loop-byte.invariant.1.0 s.step_in_file-next.ensures.kept

-- and what is left of the word
stepped : (s : goal.After-step_in_file-next) → LetterNumbers (letter_bytes s.args.c s.args.file.now) s.loop-byte.w → length (letter_bytes s.args.c s.args.file.now) ≡ s.args.c.letters → SameMap s.args.block s.args.w.now s.loop-byte.w
    → (arcs : List PlainArc) → Outgoing s.args.file.now s.args.c s.args.w.now s.args.block arcs → ε_closed_set s.args.block.count arcs s.args.from
    → Walking (letter_bytes s.args.c s.args.file.now) arcs s.args.block.count s.args.word.now s.args.from s.step_in_file-next.result (s.loop-byte.byte-index + 1)
stepped s numbers many same arcs out closed =
    let v = s.loop-byte.invariant.1.1 arcs out closed in
    let found = s.letter_of-l.ensures.letter (letter_bytes s.args.c s.args.file.now) numbers s.requires.1.1.1.1.1 (omega (arith, many, s.requires.1.1.1.0)) s.if-l-ge64.false in
    walking-more v s.loop-byte-test.true found (s.step_in_file-next.ensures.set arcs (Outgoing-kept same out) v.closed (omega (arith, letter-lt _ _ _ found, many)))

pub shape_of-w-then-is_empty : goal.shape_of-w-then-is_empty
shape_of-w-then-is_empty c = (kept (goal.at.shape_of-w-then-is_empty c).After-step_in_file-next).long

pub returns-then-is_empty : goal.returns-then-is_empty
returns-then-is_empty c = record { kept = kept (goal.at.returns-then-is_empty c).After-step_in_file-next; set = λ arcs out closed. walking-nothing (stepped (goal.at.returns-then-is_empty c).After-step_in_file-next (numbers (goal.at.returns-then-is_empty c).At-loop-byte) (many (goal.at.returns-then-is_empty c).At-loop-byte) (same (goal.at.returns-then-is_empty c).At-loop-byte) arcs out closed) (c.is_empty.ensures.0 (subst T (sym c.if-is_empty.true) tt)) }

pub loop-byte-preserved : goal.loop-byte-preserved
loop-byte-preserved c = (omega (arith, c.loop-byte-test.true), (kept (goal.at.loop-byte-preserved c).After-step_in_file-next, stepped (goal.at.loop-byte-preserved c).After-step_in_file-next (numbers (goal.at.loop-byte-preserved c).At-loop-byte) (many (goal.at.loop-byte-preserved c).At-loop-byte) (same (goal.at.loop-byte-preserved c).At-loop-byte)))

pub shape_of-w : goal.shape_of-w
shape_of-w c = c.loop-byte.invariant.1.0.long

pub returns : goal.returns
returns c = record { kept = c.loop-byte.invariant.1.0; set = λ arcs out closed. walking-end (c.loop-byte.invariant.1.1 arcs out closed) c.loop-byte-test.false }
