-- `ranges::judge_places` meets its contract: there are too many live sets behind one of the places, or those behind the last one are judged.
use mathlib.Core.Path.{◌∙◌, ap}
use Rattle.std.specs.Prelude.{Err}
use mathlib.Core.Logic.{inl}
use mathlib.Core.List.{[], ◌∷◌}
use native.Mathlib.Omega.{arith}
use Rattle.automata.specs.Automaton.{letters}
use Rattle.automata.specs.Unfolding.{live_set, plain_arcs}
use Rattle.format.specs.Decoding.{automaton_of}
use Rattle.word_layout.specs.Layout.{before_table}
use Rattle.table.proofs.Laws.{stands-numbered, stands-tells}
use Rattle.ranges_promise.specs.RangeAnswers.{ranges_of}
use Rattle.ranges_walk.specs.Walking.{Ready, SetsIn, Walked}
use Rattle.ranges_walk.proofs.Laws.{ready-kept}
use Rattle.ranges.proofs.WalkAnswers.{first-set, Walked-few, Walked-judged, Walked-over}
use Rattle.ranges.proofs.judge_places.Goals as goal
use Rattle.ranges.proofs.judge_places.Goals.{After-store, After-walk_places}

pub final_configurations-finals-requires : goal.final_configurations-finals-requires
final_configurations-finals-requires c = stands-numbered c.requires.0.stands

pub start_set-start-requires : goal.start_set-start-requires
start_set-start-requires c = omega (arith, c.requires.0.only, c.requires.0.enough)

pub store-requires : goal.store-requires
store-requires c = omega (arith, c.requires.0.enough)

-- the automaton stands as it did
ready : (d : goal.After-store) → Ready d.args.file.now d.args.c d.store.new.w d.args.block
ready d = ready-kept d.requires.0 (inl (omega arith)) d.store.ensures.kept

pub walk_places-requires : goal.walk_places-requires
walk_places-requires c = (ready (goal.at.walk_places-requires c).After-store, c.requires.1)

-- the live set of the empty word stands before the first place
first : (d : goal.After-store) → SetsIn d.args.file.now before_table d.store.new.w 1 (live_set (automaton_of d.args.file.now) 256 [] ∷ [])
first d = let x = automaton_of d.args.file.now in
    first-set d.args.file.now d.requires.0.stands (d.start_set-start.ensures (letters x) (plain_arcs x 256) (stands-tells d.requires.0.stands)) d.store.ensures.set

-- what walking the places tells
walked : (e : goal.After-walk_places) → Walked e.args.file.now e.walk_places.new.w (live_set (automaton_of e.args.file.now) 256 [] ∷ []) (ranges_of e.args.places.now) e.walk_places.result
walked e = let first' : SetsIn e.args.file.now before_table e.store.new.w 1 (live_set (automaton_of e.args.file.now) 256 [] ∷ []) = let x = automaton_of e.args.file.now in
    first-set e.args.file.now e.requires.0.stands (e.start_set-start.ensures (letters x) (plain_arcs x 256) (stands-tells e.requires.0.stands)) e.store.ensures.set in
    e.walk_places.ensures.walked (live_set (automaton_of e.args.file.now) 256 []) (first')

-- too many live sets
pub returns-in_default : goal.returns-in_default
returns-in_default c = record { same = c.walk_places.ensures.same ∙ c.store.ensures.kept.long; answer = ap Err c.of_call.ensures ∙ Walked-over c.args.file.now c.walk_places.new.w c.walk_places.result c.args.places.now (walked (goal.at.returns-in_default c).After-walk_places) c.in_default.is }

pub judge-requires : goal.judge-requires
judge-requires c = (
  Walked-few c.args.file.now c.walk_places.new.w c.walk_places.result c.args.places.now (walked (goal.at.judge-requires c).After-walk_places) c.in-Some.is,
  omega (arith, c.requires.0.enough, c.walk_places.ensures.same, c.store.ensures.kept.long),
)

pub returns : goal.returns
returns c = record {
  same = c.walk_places.ensures.same ∙ c.store.ensures.kept.long;
  answer = Walked-judged c.args.file.now c.walk_places.new.w c.walk_places.result c.args.places.now (walked (goal.at.returns c).After-walk_places) c.in-Some.is
      c.final_configurations-finals.result c.requires.0.stands c.final_configurations-finals.ensures c.judge.ensures;
}
