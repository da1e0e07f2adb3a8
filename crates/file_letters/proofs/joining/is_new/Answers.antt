-- `file_letters::joining::is_new` meets its contract.
use mathlib.Core.Path.{◌≡◌, ap, sym, ◌∙◌}
use mathlib.Core.Bool.{Bool, not, false, true}
use Rattle.std.specs.Option.{is_some}
use Rattle.file_letters.proofs.PlaceLaws.{listed_found}
use Rattle.file_letters.proofs.joining.is_new.Goals as goal

turned : (b r : Bool) → b ≡ not r → r ≡ not b
turned b true e = rw e
turned b false e = rw e

pub returns : goal.returns
returns c = turned _ _ (sym (ap is_some c.place_of.ensures ∙ listed_found c.args.letters.now c.args.byte) ∙ c.is_none.ensures)
