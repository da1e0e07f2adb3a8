use native.Mathlib.Omega.{arith}
use mathlib.Core.Path.{◌≡◌, ◌∙◌, subst}
use Prim.Native.Nat.{◌+◌, ◌*◌, ◌^◌}
use lib.ListN.{get_or}
use Rattle.word_fields.proofs.Laws.{but_then}
use Rattle.word_layout.specs.Layout.{configs}
use Rattle.table_configurations.specs.Tables.{Met, Safe}
use Rattle.std.specs.Prelude.{Option, None}
use Rattle.table_configurations.specs.declared.Sizes.{Sizes}
use Rattle.format.specs.Decoding.{letter_of}
use Rattle.table_configurations.proofs.Laws.{placed-kept}
use Rattle.table_explore.proofs.ExploreOne.{Turn, arc-here, going_end, going-failed, going_less, going-met, going-over, going_start}
use Rattle.table_operations.proofs.Laws.{next-ok, Performing-end, Performing-failed, Performing-more, Performing-start}
use Rattle.table_explore.proofs.walk.explore_one.Goals as goal
use Rattle.table_explore.proofs.walk.explore_one.Goals.{After-arrive, After-get16-j-in-arcs}

-- the state of configuration c is below 256
pub get16-j-requires : goal.get16-j-requires
get16-j-requires c = omega (arith, c.state_of.ensures, c.requires.c_lt_from_count.3.small c.args.c c.requires.c_lt_from_count.0, c.requires.c_lt_from_count.2)

pub arcs-init : goal.arcs-init
arcs-init c = going_start _ _ _ _ _ c.requires.walkable.1 c.requires.walkable.2 c.requires.c_lt_from_count.3 (omega (arith, c.requires.c_lt_from_count.3.small c.args.c c.requires.c_lt_from_count.0)) (rw c.state_of.ensures at c.get16-j.ensures.0)

pub get16-at-requires : goal.get16-at-requires
get16-at-requires c = omega (arith, c.arcs.invariant.kept.long, c.arcs-test.true, c.requires.walkable.0.lies.few, c.requires.c_lt_from_count.2)

pub get16-j-requires-in-arcs : goal.get16-j-requires-in-arcs
get16-j-requires-in-arcs c = omega (arith, c.arcs.invariant.kept.long, c.arcs-test.true, c.requires.walkable.0.lies.few, c.requires.c_lt_from_count.2)

-- ---- a turn at entry j
turn : (c : goal.After-get16-j-in-arcs) → Turn c.args.file.now c.args.w.now c.args.counts c.args.base c.args.c c.args.from_count c.args.from_plain (get_or c.args.w.now (configs + c.args.c) 0) c.arcs.w c.arcs.sizes.count c.arcs.sizes.plain c.arcs.j c.get16-at.result c.get16-j-in-arcs.result
turn c = record {
  walkable = c.requires.walkable.0;
  indexed = c.requires.walkable.1;
  linked = c.requires.walkable.2;
  going = c.arcs.invariant;
  less = c.arcs-test.true;
  is = c.get16-at.ensures.0;
  next = c.get16-j-in-arcs.ensures.0;
}

pub loop-k-init : goal.loop-k-init
loop-k-init c = Performing-start _ _ _ _ _ c.contents_of-regs.ensures (rw c.byte-p.ensures.0 (arc-here (turn (goal.at.loop-k-init c).After-get16-j-in-arcs)).ok)

pub operate_at-requires : goal.operate_at-requires
operate_at-requires c = let q = next-ok _ _ _ _ c.loop-k-test.true c.loop-k.invariant in
    (omega (arith, (arc-here (turn (goal.at.operate_at-requires c).After-get16-j-in-arcs)).fits, c.byte-p.ensures.0), omega (arith, q.0), omega (arith, q.1), c.loop-k.invariant.fits)

-- the arc fails
pub arcs-preserved-in_default : goal.arcs-preserved-in_default
arcs-preserved-in_default c = going-failed (turn (goal.at.arcs-preserved-in_default c).After-get16-j-in-arcs) c.byte-p.ensures.0
    (Performing-failed _ _ _ _ c.loop-k-test.true c.loop-k.invariant c.operate_at.ensures.0 c.in_default.is)

pub loop-k-preserved : goal.loop-k-preserved
loop-k-preserved c = Performing-more _ _ _ _ c.loop-k-test.true c.loop-k.invariant c.operate_at.ensures.0 c.operate_at.ensures.1 _ c.in-Some.is

-- the arc passes
pub arrive-requires : goal.arrive-requires
arrive-requires c = let t = turn (goal.at.arrive-requires c).After-get16-j-in-arcs in
    (omega (arith, (arc-here t).fits), c.loop-k.invariant.fits, omega (arith, t.going.more, c.requires.c_lt_from_count.0), omega (arith, t.going.room, c.requires.c_lt_from_count.1, t.walkable.lies.few), placed-kept t.going.kept.long c.requires.c_lt_from_count.2, t.going.configured)

told : (c : goal.After-arrive) (x : Option Sizes) → c.arrive.result ≡ x → Met c.arcs.w c.arrive.new.w c.args.base c.arcs.sizes.count c.arcs.sizes.plain c.args.c (letter_of (get_or c.args.file.now (c.get16-at.result + 1) 0)) (c.loop-k.regs + get_or c.args.file.now (c.get16-at.result + 2) 0 * 2 ^ 32) x
told c x e = subst (λ (x : Option Sizes). Met c.arcs.w c.arrive.new.w c.args.base c.arcs.sizes.count c.arcs.sizes.plain c.args.c (letter_of (get_or c.args.file.now (c.get16-at.result + 1) 0)) (c.loop-k.regs + get_or c.args.file.now (c.get16-at.result + 2) 0 * 2 ^ 32) x) e c.arrive.ensures.met

pub shape_of-w-in_err-sizes : goal.shape_of-w-in_err-sizes
shape_of-w-in_err-sizes c = c.arrive.ensures.kept.long ∙ (turn (goal.at.shape_of-w-in_err-sizes c).After-get16-j-in-arcs).going.kept.long

pub returns-in_err-sizes : goal.returns-in_err-sizes
returns-in_err-sizes c = let t = turn (goal.at.returns-in_err-sizes c).After-get16-j-in-arcs in rw c.from_residual.ensures (record {
  kept = but_then t.going.kept c.arrive.ensures.kept;
  safe = tt;
  met = going-over t c.byte-p.ensures.0 (Performing-end _ _ _ _ c.loop-k-test.false c.loop-k.invariant) c.arrive.new.w
      (told (goal.at.returns-in_err-sizes c).After-arrive None c.in_err-sizes.was);
})

pub arcs-preserved : goal.arcs-preserved
arcs-preserved c = going-met (turn (goal.at.arcs-preserved c).After-get16-j-in-arcs) c.byte-p.ensures.0 (Performing-end _ _ _ _ c.loop-k-test.false c.loop-k.invariant)
    c.arrive.ensures.kept
    (subst (λ (x : Option Sizes). Safe c.arrive.new.w c.arcs.sizes.count (c.arcs.sizes.plain + 1) x) c.in_ok-sizes.was c.arrive.ensures.safe)
    (told (goal.at.arcs-preserved c).After-arrive _ c.in_ok-sizes.was)

pub shape_of-w : goal.shape_of-w
shape_of-w c = c.arcs.invariant.kept.long

pub returns : goal.returns
returns c = record { kept = c.arcs.invariant.kept; safe = record { more = c.arcs.invariant.more; few = omega (arith, c.arcs.invariant.room); configured = c.arcs.invariant.configured }; met = going_end c.arcs.invariant c.arcs-test.false }

pub overflow_add-at : goal.overflow_add-at
overflow_add-at c = omega (arith, (arc-here (turn c)).fits)

pub byte-p-requires : goal.byte-p-requires
byte-p-requires c = omega (arith, (arc-here (turn c)).fits)

pub overflow_add-at-in-loop-k : goal.overflow_add-at-in-loop-k
overflow_add-at-in-loop-k c = omega (arith, (arc-here (turn (goal.at.overflow_add-at-in-loop-k c).After-get16-j-in-arcs)).fits, c.byte-p.ensures.0)

pub overflow_add-at-in-loop-k-2 : goal.overflow_add-at-in-loop-k-2
overflow_add-at-in-loop-k-2 c = omega (arith, (arc-here (turn (goal.at.overflow_add-at-in-loop-k-2 c).After-get16-j-in-arcs)).fits, c.byte-p.ensures.0)

pub arcs-smaller-in_default : goal.arcs-smaller-in_default
arcs-smaller-in_default c = going_less (turn (goal.at.arcs-smaller-in_default c).After-get16-j-in-arcs)

pub arcs-smaller : goal.arcs-smaller
arcs-smaller c = going_less (turn (goal.at.arcs-smaller c).After-get16-j-in-arcs)
