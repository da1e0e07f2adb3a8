-- Putting: what a line holds after a text was put behind what it held.
use Rattle.std.specs.Prelude.{◌≡◌, ℕ, List}
use Rattle.line_text.specs.Writing.{Writes}
use Rattle.line_text.specs.declared.Line.{Line}

-- The text is written at the line's place, as many of its bytes as have room, and the line then stands behind them, in the same bytes.
abbrev pub Puts : List ℕ → Line → Line → Type 0
Puts text old new = Writes text old.at new.at old.out.now new.out.now × (new.out.ghost_name ≡ old.out.ghost_name)
