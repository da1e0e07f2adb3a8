-- Frame: which words of a lent slice are as they were.
use Rattle.std.specs.Prelude.{◌≡◌, ◌≢◌, List, ℕ, ◌≤◌, ◌<◌, length, get_or}

-- w' is w but for the words from a to before b
pub record Kept (a b : ℕ) (w w' : List ℕ) : Type 0 where
  pub long : length w' ≡ length w
  pub below : (j : ℕ) → j < a → get_or w' j 0 ≡ get_or w j 0
  pub above : (j : ℕ) → b ≤ j → get_or w' j 0 ≡ get_or w j 0

-- w' is w but for the words a and b
pub record Beside (a b : ℕ) (w w' : List ℕ) : Type 0 where
  pub long : length w' ≡ length w
  pub rest : (j : ℕ) → j ≢ a → j ≢ b → get_or w' j 0 ≡ get_or w j 0

-- w'' is w but for the words from a to before b, and those from c to before d
pub record KeptBut (a b c d : ℕ) (w w'' : List ℕ) : Type 0 where
  pub long : length w'' ≡ length w
  pub below : (j : ℕ) → j < a → get_or w'' j 0 ≡ get_or w j 0
  pub between : (j : ℕ) → b ≤ j → j < c → get_or w'' j 0 ≡ get_or w j 0
  pub above : (j : ℕ) → d ≤ j → get_or w'' j 0 ≡ get_or w j 0
