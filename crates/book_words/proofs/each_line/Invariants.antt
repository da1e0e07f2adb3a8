-- The place in the input stands, its buffer keeps its length, and `judge` may be called again.
use Rattle.std.proofs.Common.{◌≡◌, length}
use Rattle.book_words.specs.Places.{Standing}
use Rattle.book_words.proofs.each_line.Given as goal

abbrev pub invariant-loop-turns : goal.invariant-loop-turns
invariant-loop-turns g l = goal.F-IsAlwaysCallable g l.judge × Standing (length l.text) l.input × (length l.text ≡ length l.initial.text)
