-- Writing: a text put at a place of lent bytes, as far as it has room there.
use Rattle.std.specs.Prelude.{◌≡◌, ℕ, ◌+◌, ◌-◌, min, List, length}
use Rattle.std.proofs.Math.Seq.{paste}

-- how many bytes of a text have room in the bytes from a place on
abbrev pub fitting : List ℕ → ℕ → List ℕ → ℕ
fitting text at bytes = min (length text) (length bytes - at)

-- The text is written from the place `at` on, as many of its bytes as have room; `end` is the place behind them.
-- `paste` is the library's: the old bytes, with so many from `at` on replaced by the front of the text.
pub record Writes (text : List ℕ) (at end : ℕ) (old new : List ℕ) : Type 0 where
  pub ends : end ≡ at + fitting text at old
  pub holds : new ≡ paste old at text (fitting text at old)
