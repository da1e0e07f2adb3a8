-- `compare::loading::load` meets its contract: the automaton is refused by a limit, or it stands in its block, its arcs get the new numbers
-- of their letters, and it is pruned.
use mathlib.Core.Path.{◌∙◌, ◌≡◌, refl, subst, sym}
use native.Mathlib.Omega.{arith}
use Rattle.word_fields.specs.Frame.{KeptBut}
use Rattle.word_fields.proofs.Laws.{but_high, but_then, but_wider}
use Rattle.word_layout.specs.Layout.{block_end, first_block}
use Rattle.word_layout.specs.declared.Block.{Block}
use Rattle.file_fields.specs.declared.Counts.{Counts}
use Rattle.format.specs.Decoding.{automaton_of}
use Rattle.file_laws.proofs.Laws.{valid-letters}
use Rattle.table_explore.specs.Explores.{explored_of}
use Rattle.std.specs.Prelude.{Option, Some}
use Rattle.table_configurations.specs.declared.Sizes.{Sizes}
use Rattle.table_sets.proofs.Laws.{tells-listed}
use Rattle.table_relettering.specs.Relisting.{Relisted}
use Rattle.table_relettering.proofs.Laws.{Relisted-listed, Relisted-none}
use Rattle.table.specs.Standing.{Raised, StandsBy}
use Rattle.table.proofs.Laws.{stands-numbered}
use Rattle.compare.proofs.Refusals.{limit_arcs, limit_configurations, limit_none, limit_same}
use Rattle.compare.proofs.LoadingLaws.{prepared}
use Rattle.compare.proofs.loading.load.Goals as goal
use Rattle.compare.proofs.loading.load.Goals.{After-build, In-Some, Joined-new-gt0, then-new-gt0, else-new-gt0}

-- the counts of the file
abbrev counts : goal.After-build → Counts
counts b = b.read_counts-c.result

pub read_counts-c-requires : goal.read_counts-c-requires
read_counts-c-requires c = omega (arith, (valid-letters c.args.file.now _ c.requires.0).1)

pub build-requires : goal.build-requires
build-requires c = (rw c.read_counts-c.ensures c.requires.0, record { above = omega (arith, c.requires.2); block = c.requires.3 })

-- it writes below the blocks and in its own
building : (b : goal.After-build) → KeptBut 0 first_block b.args.base (block_end b.args.base) b.args.w.now b.build.new.w
building b = but_wider (omega arith) (omega arith) (omega arith) (omega arith) b.build.ensures.kept

-- it has too many configurations
pub returns-in_default : goal.returns-in_default
returns-in_default c = record {
  kept = building (goal.at.returns-in_default c).After-build;
  loads = λ all short. limit_configurations (automaton_of c.args.file.now) 256 2048 (sym c.in_default.is ∙ c.build.ensures.answer) ∙ limit_same (automaton_of c.args.file.now) 256 2048 c.args.new.now all;
}

-- how many it has, and how many plain arcs
found : (z : goal.In-Some) → Some (record { count = z.in-Some.sizes.count; plain = z.in-Some.sizes.plain }) ≡ explored_of (automaton_of z.args.file.now) 256
found z = sym z.in-Some.is ∙ z.build.ensures.answer

-- it has too many plain arcs
pub returns-then-plain-gt2048 : goal.returns-then-plain-gt2048
returns-then-plain-gt2048 c = record {
  kept = building (goal.at.returns-then-plain-gt2048 c).After-build;
  loads = λ all short. limit_arcs (automaton_of c.args.file.now) 256 2048 (found (goal.at.returns-then-plain-gt2048 c).In-Some) (omega (arith, c.if-plain-gt2048.true)) ∙ limit_same (automaton_of c.args.file.now) 256 2048 c.args.new.now all;
}

-- it stands in its block
abbrev block : goal.In-Some → Block
block z = record { base = z.args.base; count = z.in-Some.sizes.count; plain = z.in-Some.sizes.plain }

stands : (z : goal.In-Some) →
    let counts' : Counts = z.read_counts-c.result in Raised z.args.file.now (counts') z.build.new.w (block z)
stands z = let counts' : Counts = z.read_counts-c.result in
    subst (λ (r : Option Sizes). StandsBy z.args.file.now (counts') z.build.new.w z.args.base r) z.in-Some.is z.build.ensures.stands

pub final_configurations-finals-requires : goal.final_configurations-finals-requires
final_configurations-finals-requires c = stands-numbered (stands (goal.at.final_configurations-finals-requires c).In-Some).stands

pub reletter-requires : goal.reletter-requires
reletter-requires c = (c.requires.1, c.if-plain-gt2048.false, omega (arith, c.requires.3, c.build.ensures.kept.long))

relisted : (j : goal.Joined-new-gt0) →
    let block' : Block = record { base = j.args.base; count = j.in-Some.sizes.count; plain = j.in-Some.sizes.plain } in Relisted j.args.new.now j.build.new.w j.if-new-gt0.w (block')
relisted j = let block' : Block = record { base = j.args.base; count = j.in-Some.sizes.count; plain = j.in-Some.sizes.plain } in
    elim j.if-new-gt0.branch [
      | then-new-gt0 t ↦ rw t.w-is t.reletter.ensures
      | else-new-gt0 t ↦ rw t.w-is (Relisted-none _ _ _ t.if-new-gt0.false)
    ]

relettering : (j : goal.Joined-new-gt0) → KeptBut 0 first_block j.args.base (block_end j.args.base) j.args.w.now j.if-new-gt0.w
relettering j = let building' : KeptBut 0 first_block j.args.base (block_end j.args.base) j.args.w.now j.build.new.w = but_wider (omega arith) (omega arith) (omega arith) (omega arith) j.build.ensures.kept in
    but_then (building') (but_high (omega arith) (omega arith) (omega arith) (relisted j).kept)

pub overflow_mul-count : goal.overflow_mul-count
overflow_mul-count c = omega (arith, (stands-numbered (stands (goal.at.overflow_mul-count c).In-Some).stands).few)

pub shape_of-w-then-plain-count : goal.shape_of-w-then-plain-count
shape_of-w-then-plain-count c = (relettering (goal.at.shape_of-w-then-plain-count c).Joined-new-gt0).long

-- it stands there as it is, with so few plain arcs
pub returns-then-plain-count : goal.returns-then-plain-count
returns-then-plain-count c = record {
  kept = relettering (goal.at.returns-then-plain-count c).Joined-new-gt0;
  loads = λ all short. (
    limit_none (automaton_of c.args.file.now) 256 2048 (found (goal.at.returns-then-plain-count c).In-Some) c.if-plain-gt2048.false ∙ limit_same (automaton_of c.args.file.now) 256 2048 c.args.new.now all,
    refl,
    prepared c.args.new.now all c.requires.1 short (stands (goal.at.returns-then-plain-count c).In-Some) (relisted (goal.at.returns-then-plain-count c).Joined-new-gt0) c.final_configurations-finals.result c.if-plain-gt2048.false c.final_configurations-finals.ensures refl (omega arith) (λ letters arcs few t. t),
  );
}

pub prune-block-requires : goal.prune-block-requires
prune-block-requires c = (omega (arith, c.requires.2), (omega (arith, c.requires.3, (relettering (goal.at.prune-block-requires c).Joined-new-gt0).long), Relisted-listed (relisted (goal.at.prune-block-requires c).Joined-new-gt0) (tells-listed (stands (goal.at.prune-block-requires c).In-Some).tells c.if-plain-gt2048.false)))

pub shape_of-w : goal.shape_of-w
shape_of-w c = c.prune-block.ensures.kept.long ∙ (relettering (goal.at.shape_of-w c).Joined-new-gt0).long

-- and is pruned there
pub returns : goal.returns
returns c = record {
  kept = but_then (relettering (goal.at.returns c).Joined-new-gt0) (but_wider (omega arith) (omega arith) (omega arith) (omega arith) c.prune-block.ensures.kept);
  loads = λ all short. (
    limit_none (automaton_of c.args.file.now) 256 2048 (found (goal.at.returns c).In-Some) c.if-plain-gt2048.false ∙ limit_same (automaton_of c.args.file.now) 256 2048 c.args.new.now all,
    c.prune-block.ensures.same.0,
    prepared c.args.new.now all c.requires.1 short (stands (goal.at.returns c).In-Some) (relisted (goal.at.returns c).Joined-new-gt0) c.final_configurations-finals.result c.if-plain-gt2048.false c.final_configurations-finals.ensures c.prune-block.ensures.same.1 c.prune-block.ensures.same.2 c.prune-block.ensures.told,
  );
}
