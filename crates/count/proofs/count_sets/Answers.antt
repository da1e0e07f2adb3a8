-- `count::count_sets` meets its contract: there are too many live sets, or the words are counted by them, and those that are not accepted are
-- the rest of all words.
use mathlib.Core.Path.{◌∙◌, ◌≡◌, ap, subst, sym}
use mathlib.Core.List.{List}
use Prim.Native.Nat.{ℕ, ◌^◌}
use native.Mathlib.Omega.{arith}
use Rattle.std.specs.Prelude.{Err}
use Rattle.automata.specs.Automaton.{letters}
use Rattle.automata.specs.Unfolding.{plain_arcs}
use Rattle.automata.proofs.Laws.{both-many}
use Rattle.format.specs.Decoding.{automaton_of}
use Rattle.word_sets.specs.Sets.{view}
use Rattle.word_layout.specs.Layout.{letter_sets, set_table}
use Rattle.word_layout.specs.declared.SetTable.{SetTable}
use Rattle.live_search.specs.Exploring.{Searchable}
use Rattle.table.proofs.Laws.{letters-are, stands-numbered, stands-outgoing, stands-tells}
use Rattle.count_targets.specs.Counting.{Counting}
use Rattle.count.proofs.Refusals.{sets-beyond, sets-counted}
use Rattle.count.proofs.StartCounting.{Explored, counting, searchable, sets-few, sets_over}
use Rattle.count.proofs.count_sets.Goals as goal
use Rattle.count.proofs.count_sets.Goals.{After-explore_sets, In-Some, Start}

pub final_configurations-finals-requires : goal.final_configurations-finals-requires
final_configurations-finals-requires c = stands-numbered c.requires.stands.0

pub start_set-start-requires : goal.start_set-start-requires
start_set-start-requires c = omega (arith, c.requires.stands.1.0, c.requires.stands.1.1)

pub explore_sets-requires : goal.explore_sets-requires
explore_sets-requires c = subst (λ (t : SetTable). Searchable c.args.file.now c.args.c c.args.w.now c.args.block t letter_sets) (sym c.set_table.ensures) (searchable c.requires.stands.0 c.requires.stands.1.0 c.requires.stands.1.1)

-- the live set of the empty word
abbrev first : goal.After-explore_sets → List ℕ
first e = e.start_set-start.result

-- what exploring tells of the table of live sets
told : (e : goal.After-explore_sets) → Explored e.args.file.now e.args.c e.args.w.now e.args.block (first e) e.explore_sets.new.w e.explore_sets.result set_table
told e = subst (Explored e.args.file.now e.args.c e.args.w.now e.args.block (first e) e.explore_sets.new.w e.explore_sets.result) e.set_table.ensures (e.explore_sets.ensures.kept, (e.explore_sets.ensures.grows, e.explore_sets.ensures.meets))

-- too many live sets
pub returns-in_default : goal.returns-in_default
returns-in_default c = let x = automaton_of c.args.file.now in
    let f = c.start_set-start.ensures (letters x) (plain_arcs x 256) (stands-tells c.requires.stands.0) in record {
      same = (told (goal.at.returns-in_default c).After-explore_sets).0.long;
      answer = ap Err c.of_call.ensures ∙ sets-beyond 256 512 x c.args.size
          (sets_over c.requires.stands.0 c.requires.stands.1.0 c.requires.stands.1.1 (view c.args.block.count (first (goal.at.returns-in_default c).After-explore_sets)) f.0 c.explore_sets.new.w c.explore_sets.result ((told (goal.at.returns-in_default c).After-explore_sets).1.1 (plain_arcs x 256) (stands-outgoing c.requires.stands.0) f.1) c.in_default.is);
    }

-- the words can be counted
ready : (z : goal.In-Some) → Counting z.args.file.now z.args.c z.explore_sets.new.w z.args.block z.in-Some.n
ready z = let first' : List ℕ = z.start_set-start.result in
    let told' : Explored z.args.file.now z.args.c z.args.w.now z.args.block (first') z.explore_sets.new.w z.explore_sets.result set_table = subst (Explored z.args.file.now z.args.c z.args.w.now z.args.block (first') z.explore_sets.new.w z.explore_sets.result) z.set_table.ensures (z.explore_sets.ensures.kept, (z.explore_sets.ensures.grows, z.explore_sets.ensures.meets)) in
    let x = automaton_of z.args.file.now in
    let f = z.start_set-start.ensures (letters x) (plain_arcs x 256) (stands-tells z.requires.stands.0) in
    counting z.requires.stands.0 z.requires.stands.1.0 z.requires.stands.1.1 (view z.args.block.count (first')) f.0 z.explore_sets.new.w z.explore_sets.result ((told').1.1 (plain_arcs x 256) (stands-outgoing z.requires.stands.0) f.1)
    z.in-Some.is (told').0 (told').1.0

pub count_rounds-accepted-requires : goal.count_rounds-accepted-requires
count_rounds-accepted-requires c = record { counting = (ready (goal.at.count_rounds-accepted-requires c).In-Some, omega (arith, c.ranges.total, c.requires.total_value)); finals_value = c.final_configurations-finals.ensures }

-- all words of that many letters
all_words : (s : goal.Start) → s.args.total ≡ letters (automaton_of s.args.file.now) ^ s.args.size
all_words s = s.requires.total_value ∙ ap (λ (n : ℕ). n ^ s.args.size) (sym (letters-are s.args.file.now s.args.c (stands-numbered s.requires.stands.0).valid))

pub overflow_sub-result : goal.overflow_sub-result
overflow_sub-result c = omega (arith, all_words (goal.at.overflow_sub-result c).Start, both-many (automaton_of c.args.file.now) 256 c.args.size, c.count_rounds-accepted.ensures)

pub returns : goal.returns
returns c = record { same = omega (arith, (told (goal.at.returns c).After-explore_sets).0.long); answer = sets-counted 256 512 (automaton_of c.args.file.now) c.args.size (sets-few (ready (goal.at.returns c).In-Some)) c.count_rounds-accepted.ensures (all_words (goal.at.returns c).Start) }
