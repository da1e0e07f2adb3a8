-- `live_table::key_of` meets its contract, by the definition of a row's key.
use native.Mathlib.Omega.{arith}
use Rattle.live_table.specs.SetRows.{key_of}
use Rattle.live_table.proofs.key_of.Goals as goal

pub returns : goal.returns
unfolding key_of
returns c = (rw (c.turned-7.ensures, c.turned-6.ensures, c.turned-5.ensures, c.turned-4.ensures, c.turned-3.ensures, c.turned-2.ensures, c.turned.ensures), omega arith)
