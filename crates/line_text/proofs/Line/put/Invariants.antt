-- The loop's invariant: the bytes passed are put.
use Rattle.std.proofs.Common.{take}
use Rattle.line_text.specs.Putting.{Puts}
use Rattle.line_text.proofs.Line.put.Given as goal

abbrev pub invariant-loop-b : goal.invariant-loop-b
invariant-loop-b l = Puts (take l.b-index l.s) l.initial.self l.self
