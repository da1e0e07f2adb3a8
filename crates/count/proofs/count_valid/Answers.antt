-- `count::count_valid` meets its contract: each way out is a refusal by the limits, in their order, or what the live sets answer.
use mathlib.Core.Path.{◌∙◌, ◌≡◌, ap, refl, subst}
use Prim.Native.Nat.{ℕ, ◌^◌, ◌<◌, ◌≤◌}
use native.Mathlib.Omega.{arith}
use Rattle.std.specs.Prelude.{Err, Option}
use Rattle.automata.specs.Automaton.{letters}
use Rattle.format.specs.Decoding.{automaton_of}
use Rattle.word_layout.specs.Layout.{only_block}
use Rattle.table_configurations.specs.declared.Sizes.{Sizes}
use Rattle.table.specs.Standing.{Stands}
use Rattle.table.proofs.Laws.{letters-are, stands-few, stands-many}
use Rattle.count_sums.specs.Sums.{TotalOf}
use Rattle.live_building.specs.Building.{PrunedBy}
use Rattle.count.proofs.Refusals.{limits_beyond, limits_long, limits_over, limits_passed}
use Rattle.count.proofs.count_valid.Goals as goal
use Rattle.count.proofs.count_valid.Goals.{After-all_words, In-Some, In-Some-build_pruned, Start}

-- the length is too large
pub returns-then-size-gt64 : goal.returns-then-size-gt64
returns-then-size-gt64 c = record { same = refl; answer = ap Err c.of_call.ensures ∙ limits_long 256 512 64 18446744073709551615 (automaton_of c.args.file.now) c.args.size c.if-size-gt64.true }

-- the letters of the automaton are those of the counts
same_power : (s : goal.Start) → letters (automaton_of s.args.file.now) ^ s.args.size ≡ s.args.c.letters ^ s.args.size
same_power s = ap (λ (n : ℕ). n ^ s.args.size) (letters-are s.args.file.now s.args.c s.requires.0)

-- how many words there are
words : (b : goal.After-all_words) (r : Option ℕ) → b.all_words.result ≡ r → TotalOf 18446744073709551615 b.args.c.letters b.args.size r
words b r e = subst (TotalOf 18446744073709551615 b.args.c.letters b.args.size) e b.all_words.ensures

-- more than 64 bits can count
pub returns-in_default : goal.returns-in_default
returns-in_default c = let over : 18446744073709551615 < c.args.c.letters ^ c.args.size = words (goal.at.returns-in_default c).After-all_words _ c.in_default.is in record { same = refl; answer = ap Err c.of_call-in_default.ensures ∙ limits_over 256 512 64 18446744073709551615 (automaton_of c.args.file.now) c.args.size (omega (arith, c.if-size-gt64.false)) (omega (arith, same_power (goal.at.returns-in_default c).Start, over)) }

fitting : (z : goal.In-Some) → letters (automaton_of z.args.file.now) ^ z.args.size ≤ 18446744073709551615
fitting z = let same_power' : letters (automaton_of z.args.file.now) ^ z.args.size ≡ z.args.c.letters ^ z.args.size = ap (λ (n : ℕ). n ^ z.args.size) (letters-are z.args.file.now z.args.c z.requires.0) in
    let words' : (r : Option ℕ) → z.all_words.result ≡ r → TotalOf 18446744073709551615 z.args.c.letters z.args.size r = λ r e. subst (TotalOf 18446744073709551615 z.args.c.letters z.args.size) e z.all_words.ensures in
    omega (arith, same_power', words' _ z.in-Some.is)

-- more than 256 configurations
pub returns-in_default-build_pruned : goal.returns-in_default-build_pruned
returns-in_default-build_pruned c = let many = subst (PrunedBy c.args.file.now c.args.c c.build_pruned.new.w) c.in_default-build_pruned.is c.build_pruned.ensures.stands in record { same = c.build_pruned.ensures.same; answer = ap Err c.of.ensures ∙ limits_beyond 256 512 64 18446744073709551615 (automaton_of c.args.file.now) c.args.size (omega (arith, c.if-size-gt64.false)) (fitting (goal.at.returns-in_default-build_pruned c).In-Some) many }

-- the automaton stands in its block
stands : (k : goal.In-Some-build_pruned) → Stands k.args.file.now k.args.c k.build_pruned.new.w (record { base = only_block; count = k.in-Some-build_pruned.sizes.count; plain = k.in-Some-build_pruned.sizes.plain })
stands k = subst (λ (r : Option Sizes). PrunedBy k.args.file.now k.args.c k.build_pruned.new.w r) k.in-Some-build_pruned.is k.build_pruned.ensures.stands

pub count_sets-requires : goal.count_sets-requires
count_sets-requires c = record { stands = (stands (goal.at.count_sets-requires c).In-Some-build_pruned, (refl, omega (arith, c.build_pruned.ensures.same, c.requires.1))); total_value = words (goal.at.count_sets-requires c).After-all_words _ c.in-Some.is }

pub returns : goal.returns
returns c = let h = stands (goal.at.returns c).In-Some-build_pruned in record { same = c.count_sets.ensures.same ∙ c.build_pruned.ensures.same; answer = c.count_sets.ensures.answer ∙ limits_passed 256 512 64 18446744073709551615 (automaton_of c.args.file.now) c.args.size (omega (arith, c.if-size-gt64.false)) (fitting (goal.at.returns c).In-Some) (omega (arith, stands-few h, stands-many h)) }
