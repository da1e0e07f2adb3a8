-- `ranges_walk::expand` meets its contract: a step leaves the set behind each letter, and then those of the range are met.
use native.Mathlib.Omega.{arith}
use mathlib.Core.Path.{subst, sym}
use Prim.Native.Nat.{◌-◌}
use Rattle.automata.specs.Lists.{count_from}
use Rattle.word_fields.proofs.Laws.{kept_then, kept-wider}
use Rattle.word_layout.specs.Layout.{letter_sets}
use Rattle.table_sets.specs.Stepping.{set_of}
use Rattle.ranges_walk.proofs.ExpandOne.{Meetable, MetIn, chain-stays, meetable, met-behind, met-chained, ready-steps, sets-stay}
use Rattle.ranges_walk.proofs.expand.Goals as goal

pub load-set-requires : goal.load-set-requires
load-set-requires c = omega (arith, c.requires.ready.0.enough, c.requires.i_bound.0)

pub step_letters-met-requires : goal.step_letters-met-requires
step_letters-met-requires c = (ready-steps c.requires.ready.0, omega arith)

pub meet_letters-requires : goal.meet_letters-requires
meet_letters-requires c = let m = subst (Meetable c.step_letters-met.new.w c.args.n) (sym c.set_table.ensures) (meetable c.requires.ready.0.enough c.requires.i_bound.1.0 c.step_letters-met.ensures.kept c.requires.i_bound.1.1) in
    (omega arith, (omega arith, ((omega (arith, c.requires.ready.1, (ready-steps c.requires.ready.0).walkable.letters), (omega arith, c.requires.i_bound.1.0)), (m.0, m.1))))

pub returns : goal.returns
returns c = let sets = set_of c.step_letters-met.new.w letter_sets c.step_letters-met.result in
    let letters = count_from c.args.low (c.args.end - c.args.low) in
    let f = subst (MetIn sets letters c.step_letters-met.new.w c.args.n c.meet_letters.new.w c.meet_letters.result) c.set_table.ensures (c.meet_letters.ensures.kept, c.meet_letters.ensures.meets) in record {
      kept = kept_then (kept-wider (omega arith) (omega arith) c.step_letters-met.ensures.kept) (kept-wider (omega arith) (omega arith) f.0);
      chained = met-chained sets letters c.step_letters-met.new.w c.args.n c.meet_letters.new.w c.meet_letters.result f.1 c.requires.i_bound.1.0 (chain-stays c.requires.ready.0.enough c.requires.i_bound.1.0 c.step_letters-met.ensures.kept c.requires.i_bound.1.1);
      meets = λ S known live held. met-behind c.requires.ready.0 c.load-set.result c.args.i c.load-set.ensures sets c.step_letters-met.ensures.set S live c.args.low c.args.end c.meet_letters.new.w c.meet_letters.result known c.requires.ready.1
          (sets-stay c.requires.ready.0.enough c.requires.i_bound.1.0 c.step_letters-met.ensures.kept c.args.file.now held) f.1;
    }
