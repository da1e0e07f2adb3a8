-- How many bytes an arc takes: its number of operations is the fourth byte from its place on.
use native.Mathlib.Omega.{arith}
use lib.Seq.{get_or-drop}
use Rattle.file_fields.proofs.fields.arc_size.Goals as goal

pub returns : goal.returns
returns c = let e = get_or-drop c.args.at c.args.s.now 3 0 in (omega (arith, c.byte.ensures), omega (arith, c.byte.ensures))
