-- `live_table::turned` meets its contract, by the definition.
use mathlib.Core.Path.{refl}
use Rattle.live_table.specs.SetRows.{turn}
use Rattle.live_table.proofs.turned.Goals as goal

pub returns : goal.returns
unfolding turn
returns c = refl
