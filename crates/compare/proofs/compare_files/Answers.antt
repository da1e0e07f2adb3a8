-- `compare::compare_files` meets its contract: an automaton is refused by a limit, or both stand in their blocks and are decided.
use borrow.Author.Rules.{rules}
use mathlib.Core.Path.{◌∙◌, ◌≡◌, subst}
use Rattle.std.specs.Prelude.{None, Ok, Result}
use Rattle.file_fields.specs.declared.Reason.{Reason}
use Rattle.compare.specs.declared.loading.Standing.{Standing}
use mathlib.Core.Logic.{inl}
use native.Mathlib.Omega.{arith}
use lib.ListN.{length}
use Rattle.word_layout.specs.Layout.{first_block, second_block}
use Rattle.file_pair.specs.Lettered.{automaton_over}
use Rattle.file_pair.proofs.Laws.{lettered-few}
use Rattle.table_sets.proofs.Laws.{block-but, tells-listed}
use Rattle.compare.specs.Loading.{Loads, Prepared, limit_of}
use Rattle.compare.proofs.Refusals.{both-passed, first-stopped, second-stopped}
use Rattle.compare.proofs.LoadingLaws.{over-comparable, over-few, prepared-kept}
use Rattle.compare.proofs.compare_files.Goals as goal
use Rattle.compare.proofs.compare_files.Goals.{After-decide, After-load-left, After-load-right, In-Ok-right}

-- what loading answers, over the letters of both
first-loads : (l : goal.After-load-left) (r : Result Standing Reason) → l.load-left.result ≡ r → Loads (automaton_over l.args.one.now l.args.letters.now l.args.first.now) 2048 l.load-left.new.w first_block r
first-loads l r e = subst (Loads (automaton_over l.args.one.now l.args.letters.now l.args.first.now) 2048 l.load-left.new.w first_block) e (l.load-left.ensures.loads l.args.letters.now (over-few _ _ _ l.requires.0.fits₁))

second-loads : (m : goal.After-load-right) (r : Result Standing Reason) → m.load-right.result ≡ r → Loads (automaton_over m.args.two.now m.args.letters.now m.args.second.now) 2048 m.load-right.new.w second_block r
second-loads m r e = subst (Loads (automaton_over m.args.two.now m.args.letters.now m.args.second.now) 2048 m.load-right.new.w second_block) e (m.load-right.ensures.loads m.args.letters.now (over-few _ _ _ m.requires.0.fits₂))

pub load-left-requires : goal.load-left-requires
load-left-requires c = (c.requires.0.first, (lettered-few c.requires.0).0, omega arith, omega (arith, c.requires.1.0))

-- the first is refused
pub returns-in_default : goal.returns-in_default
returns-in_default c = record { same = c.load-left.ensures.kept.long; answers = rw c.of.ensures (first-stopped c.args.word.now (first-loads (goal.at.returns-in_default c).After-load-left _ c.unwrap_err.ensures)) }

pub load-right-requires : goal.load-right-requires
load-right-requires c = (c.requires.0.second, (lettered-few c.requires.0).1, omega arith, omega (arith, c.requires.1.0, c.load-left.ensures.kept.long))

-- as many words are lent once the second is loaded
long : (m : goal.After-load-right) → length m.load-right.new.w ≡ length m.args.w.now
long m = m.load-right.ensures.kept.long ∙ m.load-left.ensures.kept.long

-- the second is refused
pub returns-in_default-right : goal.returns-in_default-right
returns-in_default-right c = record { same = long (goal.at.returns-in_default-right c).After-load-right; answers = rw c.of-in_default-right.ensures (second-stopped (first-loads (goal.at.returns-in_default-right c).After-load-left _ c.in-Ok.is).0 c.args.word.now (second-loads (goal.at.returns-in_default-right c).After-load-right _ c.unwrap_err-in_default-right.ensures)) }

-- both are prepared: the second is written beside the first
first-prepared : (e : goal.In-Ok-right) → (e.in-Ok.x.block.base ≡ first_block) × Prepared (automaton_over e.args.one.now e.args.letters.now e.args.first.now) 256 e.load-right.new.w e.in-Ok.x
first-prepared e =
    let l : (None ≡ limit_of 256 2048 (automaton_over e.args.one.now e.args.letters.now e.args.first.now)) × (e.in-Ok.x.block.base ≡ first_block) × Prepared (automaton_over e.args.one.now e.args.letters.now e.args.first.now) 256 e.load-left.new.w e.in-Ok.x = subst (Loads (automaton_over e.args.one.now e.args.letters.now e.args.first.now) 2048 e.load-left.new.w first_block) e.in-Ok.is (e.load-left.ensures.loads e.args.letters.now (over-few _ _ _ e.requires.0.fits₁)) in
    let at = l.1 in
    (l.1, prepared-kept (block-but e.load-right.ensures.kept (omega arith) (inl (omega arith))) l.2)

second-prepared : (e : goal.In-Ok-right) → (e.in-Ok-right.y.block.base ≡ second_block) × Prepared (automaton_over e.args.two.now e.args.letters.now e.args.second.now) 256 e.load-right.new.w e.in-Ok-right.y
second-prepared e =
    let l : Loads (automaton_over e.args.two.now e.args.letters.now e.args.second.now) 2048 e.load-right.new.w second_block (Ok e.in-Ok-right.y) = subst (Loads (automaton_over e.args.two.now e.args.letters.now e.args.second.now) 2048 e.load-right.new.w second_block) e.in-Ok-right.is (e.load-right.ensures.loads e.args.letters.now (over-few _ _ _ e.requires.0.fits₂)) in
    (l.1, l.2)

pub decide-requires : goal.decide-requires
decide-requires c = (
  record {
    long = omega (arith, c.requires.1.0, long (goal.at.decide-requires c).After-load-right);
    few = over-few _ _ _ c.requires.0.fits₁;
    first = (first-prepared (goal.at.decide-requires c).In-Ok-right).0;
    second = (second-prepared (goal.at.decide-requires c).In-Ok-right).0;
    listed₁ = tells-listed (first-prepared (goal.at.decide-requires c).In-Ok-right).1.tells (first-prepared (goal.at.decide-requires c).In-Ok-right).1.few;
    listed₂ = tells-listed (second-prepared (goal.at.decide-requires c).In-Ok-right).1.tells (second-prepared (goal.at.decide-requires c).In-Ok-right).1.few;
  },
  c.requires.1.1,
)

long-2 : (d : goal.After-decide) → length d.decide.new.w ≡ length d.args.w.now
long-2 d = let long' : length d.load-right.new.w ≡ length d.args.w.now = d.load-right.ensures.kept.long ∙ d.load-left.ensures.kept.long in
    d.decide.ensures.same ∙ long'

pub shape_of-w : goal.shape_of-w
shape_of-w c = search (rules, long-2 (goal.at.shape_of-w c).After-decide)

pub returns : goal.returns
returns c = record { same = long-2 (goal.at.returns c).After-decide; answers = both-passed (first-loads (goal.at.returns c).After-load-left _ c.in-Ok.is).0 (second-loads (goal.at.returns c).After-load-right _ c.in-Ok-right.is).0 (c.decide.ensures.answers _ _ (over-comparable _ _ _ _ _ (first-prepared (goal.at.returns c).In-Ok-right).1 (second-prepared (goal.at.returns c).In-Ok-right).1)) }
