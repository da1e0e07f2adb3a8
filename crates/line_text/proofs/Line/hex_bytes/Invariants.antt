-- The loop's invariant: the digits of the bytes passed are put.
use Rattle.std.proofs.Common.{take}
use Rattle.line_text.specs.Digits.{hex_digits}
use Rattle.line_text.specs.Putting.{Puts}
use Rattle.line_text.proofs.Line.hex_bytes.Given as goal

abbrev pub invariant-loop-b : goal.invariant-loop-b
invariant-loop-b l = Puts (hex_digits (take l.b-index l.s)) l.initial.self l.self
