-- `ranges::judge_valid` meets its contract: each way out is a refusal by the limits, in their order, or what the live sets answer.
use borrow.Author.Tests.{not-false, not-true}
use mathlib.Core.Path.{◌∙◌, ◌≡◌, ap, refl, subst, sym}
use mathlib.Core.Bool.{false}
use Prim.Native.Nat.{ℕ}
use native.Mathlib.Omega.{arith}
use Rattle.std.specs.Prelude.{Err}
use Rattle.automata.specs.Automaton.{letters}
use Rattle.format.specs.Decoding.{automaton_of}
use Rattle.word_layout.specs.Layout.{only_block}
use Rattle.std.specs.Prelude.{Option}
use Rattle.table_configurations.specs.declared.Sizes.{Sizes}
use Rattle.table.specs.Standing.{Stands}
use Rattle.table.proofs.Laws.{letters-are, stands-few, stands-many}
use Rattle.live_building.specs.Building.{PrunedBy}
use Rattle.ranges_promise.specs.RangeAnswers.{bad_ranges}
use Rattle.ranges.proofs.Refusals.{limits_beyond, limits_no_ranges, limits_passed}
use Rattle.ranges.proofs.judge_valid.Goals as goal
use Rattle.ranges.proofs.judge_valid.Goals.{Else-not-are_ranges, In-Some, Start}

-- the letters of the automaton are those of the counts
same-ranges : (s : goal.Start) → bad_ranges (letters (automaton_of s.args.file.now)) s.args.places.now ≡ bad_ranges s.args.c.letters s.args.places.now
same-ranges s = ap (λ (n : ℕ). bad_ranges n s.args.places.now) (letters-are s.args.file.now s.args.c s.requires.0)

-- the bytes are no ranges
pub returns-then-not-are_ranges : goal.returns-then-not-are_ranges
returns-then-not-are_ranges c = let bad = not-false (bad_ranges c.args.c.letters c.args.places.now) (sym c.are_ranges.ensures ∙ c.if-not-are_ranges.true) in record { same = refl; answer = ap Err c.of_call.ensures ∙ limits_no_ranges 256 512 (automaton_of c.args.file.now) c.args.places.now (same-ranges (goal.at.returns-then-not-are_ranges c).Start ∙ bad) }

-- they are
sound : (i : goal.Else-not-are_ranges) → bad_ranges i.args.c.letters i.args.places.now ≡ false
sound i = not-true (bad_ranges i.args.c.letters i.args.places.now) (sym i.are_ranges.ensures ∙ i.if-not-are_ranges.false)

-- more than 256 configurations
pub returns-in_default : goal.returns-in_default
returns-in_default c = let many = subst (PrunedBy c.args.file.now c.args.c c.build_pruned.new.w) c.in_default.is c.build_pruned.ensures.stands in record { same = c.build_pruned.ensures.same; answer = ap Err c.of.ensures ∙ limits_beyond 256 512 (automaton_of c.args.file.now) c.args.places.now (same-ranges (goal.at.returns-in_default c).Start ∙ sound (goal.at.returns-in_default c).Else-not-are_ranges) many }

stands : (k : goal.In-Some) → Stands k.args.file.now k.args.c k.build_pruned.new.w (record { base = only_block; count = k.in-Some.sizes.count; plain = k.in-Some.sizes.plain })
stands k = subst (λ (r : Option Sizes). PrunedBy k.args.file.now k.args.c k.build_pruned.new.w r) k.in-Some.is k.build_pruned.ensures.stands

pub judge_places-requires : goal.judge_places-requires
judge_places-requires c = (record { stands = stands (goal.at.judge_places-requires c).In-Some; only = refl; enough = omega (arith, c.build_pruned.ensures.same, c.requires.1) }, sound (goal.at.judge_places-requires c).Else-not-are_ranges)

pub returns : goal.returns
returns c = let h = stands (goal.at.returns c).In-Some in record { same = c.judge_places.ensures.same ∙ c.build_pruned.ensures.same; answer = c.judge_places.ensures.answer ∙ limits_passed 256 512 (automaton_of c.args.file.now) c.args.places.now (same-ranges (goal.at.returns c).Start ∙ sound (goal.at.returns c).Else-not-are_ranges) (omega (arith, stands-few h, stands-many h)) }
