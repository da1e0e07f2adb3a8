use native.Mathlib.Omega.{arith}
use mathlib.Core.Path.{◌≡◌, refl, subst}
use mathlib.Core.List.{List}
use Prim.Native.Nat.{ℕ, ◌+◌}
use lib.ListN.{drop, get_or}
use Rattle.word_fields.proofs.Laws.{but_then, but_wider}
use Rattle.word_fields.specs.Frame.{KeptBut}
use Rattle.table_operations.specs.Arcs.{Indexed, Linked}
use Rattle.word_layout.specs.Layout.{Placed, block_end, configs, map_end, offsets}
use Rattle.table_operations.specs.Packed.{hops_in}
use Rattle.table_configurations.specs.Tables.{MetAll, Safe}
use Rattle.std.specs.Prelude.{Option, None}
use Rattle.table_configurations.specs.declared.Sizes.{Sizes}
use Rattle.file_fields.specs.Parts.{first_arc}
use Rattle.table_configurations.proofs.Laws.{placed-kept}
use Rattle.table_operations.proofs.Laws.{indexed-kept, linked-kept}
use Rattle.table_explore.proofs.ExploredBlock.{Explores-all, Explores-many}
use Rattle.table_explore.proofs.ExploreAll.{Noted, configured-noted, kept-noted, kept-walked, placed-noted, walking-more, walking-over, walking_start}
use Rattle.table_explore.proofs.walk.explore_all.Goals as goal
use Rattle.table_explore.proofs.walk.explore_all.Goals.{After-explore_one, After-note_start, At-loop-c}

pub loop-c-init : goal.loop-c-init
loop-c-init c = walking_start c.prepare.ensures.first.0 c.prepare.ensures.first.1

-- the words when the loop began
abbrev first : goal.At-loop-c → List ℕ
first l = l.prepare.new.w

abbrev base : goal.At-loop-c → ℕ
base l = l.args.base

place : (l : goal.At-loop-c) → Placed (first l) (base l)
place l = placed-kept l.prepare.ensures.kept.long l.requires.1

-- words that differ from those in the tables of the configurations and in the block only
since : (l : goal.At-loop-c) (w : List ℕ) → KeptBut configs map_end (base l) (block_end (base l)) (first l) w → KeptBut offsets map_end (base l) (block_end (base l)) l.args.w.now w × (Indexed l.args.counts l.args.file.now w × Linked l.args.counts l.args.file.now w)
since l w k = (
  but_then (but_wider (omega arith) (omega arith) (omega arith) (omega arith) l.prepare.ensures.kept) (but_wider (omega arith) (omega arith) (omega arith) (omega arith) k),
  (indexed-kept (first l) w l.requires.0 (λ j g h. k.below j (omega arith)) l.prepare.ensures.arcs.0, linked-kept (first l) w l.requires.0 (λ j g h. k.below j h) l.prepare.ensures.arcs.1),
)

pub note_start-requires : goal.note_start-requires
note_start-requires c = (omega (arith, c.loop-c-test.true, c.loop-c.invariant.configured.few), placed-kept c.loop-c.invariant.kept.long (place (goal.at.note_start-requires c).At-loop-c))

-- ---- the start is noted
noted : (c : goal.After-note_start) → Noted c.args.counts.arcs (drop (first_arc c.args.counts) c.args.file.now) c.prepare.new.w c.args.base c.loop-c.w c.note_start.new.w c.loop-c.sizes.count c.loop-c.sizes.plain c.loop-c.c
noted c = record {
  few = c.requires.0.lies.few;
  place = placed-kept c.prepare.ensures.kept.long c.requires.1;
  walking = c.loop-c.invariant;
  less = c.loop-c-test.true;
  kept = c.note_start.ensures.kept;
  start = c.note_start.ensures.noted;
}

pub explore_one-requires : goal.explore_one-requires
explore_one-requires c = let n = noted (goal.at.explore_one-requires c).After-note_start in
    let q = (since (goal.at.explore_one-requires c).At-loop-c c.note_start.new.w (kept-noted n)).1 in record { walkable = (c.requires.0, q.0, q.1); c_lt_from_count = (n.less, omega (arith, n.walking.few, n.walking.turns), placed-noted n, configured-noted n) }

abbrev arcs : goal.At-loop-c → List ℕ
arcs l = drop (first_arc l.args.counts) l.args.file.now

told : (c : goal.After-explore_one) (x : Option Sizes) → c.explore_one.result ≡ x → MetAll c.note_start.new.w c.explore_one.new.w c.args.base c.loop-c.sizes.count c.loop-c.sizes.plain c.loop-c.c (hops_in c.args.counts c.args.file.now (get_or c.note_start.new.w (configs + c.loop-c.c) 0)) x
told c x e = subst (λ (x : Option Sizes). MetAll c.note_start.new.w c.explore_one.new.w c.args.base c.loop-c.sizes.count c.loop-c.sizes.plain c.loop-c.c (hops_in c.args.counts c.args.file.now (get_or c.note_start.new.w (configs + c.loop-c.c) 0)) x) e c.explore_one.ensures.met

-- there are too many
pub shape_of-w-in_err-sizes : goal.shape_of-w-in_err-sizes
shape_of-w-in_err-sizes c = (since (goal.at.shape_of-w-in_err-sizes c).At-loop-c _ (kept-walked (noted (goal.at.shape_of-w-in_err-sizes c).After-note_start) c.explore_one.ensures.kept)).0.long

pub returns-in_err-sizes : goal.returns-in_err-sizes
returns-in_err-sizes c = let n = noted (goal.at.returns-in_err-sizes c).After-note_start in
    let q = since (goal.at.returns-in_err-sizes c).At-loop-c c.explore_one.new.w (kept-walked n c.explore_one.ensures.kept) in rw c.from_residual.ensures (record {
      kept = q.0;
      arcs = q.1;
      explores = λ x e f. Explores-many x _ c.args.counts.arcs (arcs (goal.at.returns-in_err-sizes c).At-loop-c) c.requires.0.lies.registers e f c.requires.0.lies.ok 256 refl _ _
          (walking-over n 256 (omega (arith, n.less, n.walking.configured.few)) c.explore_one.new.w (told (goal.at.returns-in_err-sizes c).After-explore_one None c.in_err-sizes.was));
    })

pub loop-c-preserved : goal.loop-c-preserved
loop-c-preserved c = walking-more (noted (goal.at.loop-c-preserved c).After-note_start) c.explore_one.ensures.kept
    (subst (λ (x : Option Sizes). Safe c.explore_one.new.w c.loop-c.sizes.count (c.loop-c.sizes.plain + c.args.counts.arcs) x) c.in_ok-sizes.was c.explore_one.ensures.safe)
    (told (goal.at.loop-c-preserved c).After-explore_one _ c.in_ok-sizes.was)

-- all have been walked
pub shape_of-w : goal.shape_of-w
shape_of-w c = (since (goal.at.shape_of-w c).At-loop-c c.loop-c.w c.loop-c.invariant.kept).0.long

pub returns : goal.returns
returns c = let q = since (goal.at.returns c).At-loop-c c.loop-c.w c.loop-c.invariant.kept in record {
  kept = q.0;
  arcs = q.1;
  explores = λ x e f. Explores-all x _ c.args.counts.arcs (arcs (goal.at.returns c).At-loop-c) c.requires.0.lies.registers e f c.requires.0.lies.ok 256 refl
      (placed-kept c.loop-c.invariant.kept.long (place (goal.at.returns c).At-loop-c)) c.loop-c.invariant c.loop-c-test.false;
}

pub overflow_add-c : goal.overflow_add-c
overflow_add-c c = omega (arith, c.loop-c.invariant.turns)

pub loop-c-smaller : goal.loop-c-smaller
loop-c-smaller c = omega (arith, c.loop-c.invariant.configured.few, c.loop-c-test.true)
