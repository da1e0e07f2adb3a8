-- `live_table::meet` meets its contract: a row is found, or there is no room for one, or the next one is made.
use native.Mathlib.Omega.{arith}
use Rattle.std.proofs.Common.{◌∙◌, inr, refl, sym}
use Rattle.live_table.specs.SetRows.{first_set, last_set}
use Rattle.live_table.proofs.AddRow.{lines-lacking}
use Rattle.live_table.proofs.meet.Goals as goal

pub returns-then-n-eq512 : goal.returns-then-n-eq512
returns-then-n-eq512 g c = record {
  same = refl;
  many = omega (arith, c.if-n-eq512.true);
  lacks = lines-lacking c.args.w.now c.args.sets c.well_formed.1.1.1.0.0 c.well_formed.1.1.1.0.1.0.1 c.well_formed.1.1.1.0.1.1 c.requires.n_bound.0 c.requires.tabled.0.0 c.requires.tabled.0.1 (λ j. (c.slice_known-1.given j).fits)
      c.find_row.result (sym c.is_some.ensures ∙ c.if-is_some.false) c.find_row.ensures;
}

pub returns : goal.returns
returns g c = inr (record {
  many = refl;
  room = omega (arith, c.requires.n_bound.0, c.if-n-eq512.false);
  lacks = lines-lacking c.args.w.now c.args.sets c.well_formed.1.1.1.0.0 c.well_formed.1.1.1.0.1.0.1 c.well_formed.1.1.1.0.1.1 c.requires.n_bound.0 c.requires.tabled.0.0 c.requires.tabled.0.1 (λ j. (c.slice_known-1.given j).fits)
      c.find_row.result (sym c.is_some.ensures ∙ c.if-is_some.false) c.find_row.ensures;
  added = c.add_row.ensures;
})
