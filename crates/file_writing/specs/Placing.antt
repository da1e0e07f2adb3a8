-- Placing: bytes written at a place of a lent output, all else as it was. Every writer's contract is `Appended`.
use Rattle.std.specs.Prelude.{◌≡◌, List, ◌++◌, ℕ, ◌+◌, ◌≤◌, length, take, drop}

-- the output `old` with the bytes at the place `at`
abbrev pub placed : ℕ → List ℕ → List ℕ → List ℕ
placed at bytes old = take at old ++ (bytes ++ drop (at + length bytes) old)

-- there is room for the bytes, the place behind them is `next`, and the output is then `out`
pub record Appended (at : ℕ) (bytes old out : List ℕ) (next : ℕ) : Type 0 where
  pub room : at + length bytes ≤ length old
  pub behind : next ≡ at + length bytes
  pub output : out ≡ placed at bytes old
