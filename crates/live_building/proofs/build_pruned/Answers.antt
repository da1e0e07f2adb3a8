-- `live_building::build_pruned` meets its contract: the automaton stands in its block, and the list that is left tells as much.
use mathlib.Core.Path.{◌∙◌, refl, subst, sym}
use Prim.Native.Nat.{ℕ}
use native.Mathlib.Omega.{arith}
use Rattle.automata.specs.Automaton.{letters}
use Rattle.automata.specs.Unfolding.{plain_arcs}
use Rattle.format.specs.Decoding.{automaton_of}
use Rattle.word_layout.specs.Layout.{only_block}
use Rattle.std.specs.Prelude.{Option}
use Rattle.table_configurations.specs.declared.Sizes.{Sizes}
use Rattle.table_sets.specs.Stepping.{Tells}
use Rattle.table.specs.Standing.{Stands, StandsBy}
use Rattle.table.proofs.Laws.{explored-many, letters-few, stands-tells, stands-told}
use Rattle.live_building.proofs.build_pruned.Goals as goal
use Rattle.live_building.proofs.build_pruned.Goals.{In_ok-sizes}

pub build-requires : goal.build-requires
build-requires c = (c.requires.0, record { above = omega arith; block = omega (arith, c.requires.1) })

-- it has too many configurations
pub returns-in_err-sizes : goal.returns-in_err-sizes
returns-in_err-sizes c = rw c.from_residual.ensures (record { same = c.build.ensures.kept.long; stands = explored-many (automaton_of c.args.file.now) 256 (sym c.in_err-sizes.was ∙ c.build.ensures.answer) })

-- it stands in its block
stands : (z : goal.In_ok-sizes) → Stands z.args.file.now z.args.c z.build.new.w (record { base = only_block; count = z.in_ok-sizes.sizes.count; plain = z.in_ok-sizes.sizes.plain })
stands z = (subst (λ (r : Option Sizes). StandsBy z.args.file.now z.args.c z.build.new.w only_block r) z.in_ok-sizes.was z.build.ensures.stands).stands

-- its plain arcs are too many to be listed
pub returns-then-sizes-gt2048 : goal.returns-then-sizes-gt2048
returns-then-sizes-gt2048 c = record { same = c.build.ensures.kept.long; stands = stands (goal.at.returns-then-sizes-gt2048 c).In_ok-sizes }

pub prune-left-requires : goal.prune-left-requires
prune-left-requires c = (omega arith, (omega (arith, c.build.ensures.kept.long, c.requires.1), (stands-tells (stands (goal.at.prune-left-requires c).In_ok-sizes)).listed (omega (arith, c.if-sizes-gt2048.false))))

-- its list is pruned
pub returns : goal.returns
returns c = let x = automaton_of c.args.file.now in
    let told = c.prune-left.ensures.told (letters x) (plain_arcs x 256) (letters-few c.args.file.now c.args.c c.requires.0) (stands-tells (stands (goal.at.returns c).In_ok-sizes)) in record {
      same = c.prune-left.ensures.kept.long ∙ c.build.ensures.kept.long;
      stands = stands-told (stands (goal.at.returns c).In_ok-sizes) (record { base = only_block; count = c.prune-left.result.count; plain = c.prune-left.result.plain }) c.prune-left.ensures.kept.long (λ j g l. c.prune-left.ensures.kept.between j (omega arith) (omega arith)) refl c.prune-left.ensures.same.1
          (subst (λ (base : ℕ). Tells (letters x) (plain_arcs x 256) c.prune-left.new.w (record { base = base; count = c.prune-left.result.count; plain = c.prune-left.result.plain })) c.prune-left.ensures.same.0 told);
    }
