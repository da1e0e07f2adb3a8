-- FrameLaws: laws of the frames of Frame. A frame is read one word at a time; what an index needs of it is left to `omega`.
use mathlib.Core.Path.{◌≡◌, refl, ◌∙◌}
use mathlib.Core.Logic.{◌≢◌}
use mathlib.Core.List.{List}
use Prim.Native.Nat.{ℕ, ◌+◌, ◌≤◌, ◌<◌}
use native.Mathlib.Decide.{dec_lt}
use native.Mathlib.Omega.{arith}
use lib.ListN.{get_or, set, length-set}
use lib.Seq.{get_or-set_other}
use Rattle.word_fields.specs.Frame.{Kept, Beside}

pub kept_same : (a b : ℕ) (w : List ℕ) → Kept a b w w
kept_same a b w = record { long = refl; below = λ j h. refl; above = λ j h. refl }

pub kept_then : {a b : ℕ} {w w' w'' : List ℕ} → Kept a b w w' → Kept a b w' w'' → Kept a b w w''
kept_then p q = record { long = q.long ∙ p.long; below = λ j h. q.below j h ∙ p.below j h; above = λ j h. q.above j h ∙ p.above j h }

-- a wider part
pub kept-wider : {a b c d : ℕ} {w w' : List ℕ} → c ≤ a → b ≤ d → Kept a b w w' → Kept c d w w'
kept-wider h g p = record { long = p.long; below = λ j l. p.below j (omega arith); above = λ j l. p.above j (omega arith) }

-- one word is written
pub kept_set : (w : List ℕ) (at x : ℕ) → Kept at (at + 1) w (set w at x)
kept_set w at x = record {
  long = length-set w at x;
  below = λ j h. get_or-set_other w at j x 0 (λ e. omega arith);
  above = λ j h. get_or-set_other w at j x 0 (λ e. omega arith);
}

-- the words beside the one that was written
pub kept-other : {a : ℕ} {w w' : List ℕ} → Kept a (a + 1) w w' → (j : ℕ) → j ≢ a → get_or w' j 0 ≡ get_or w j 0
kept-other {a} {w} {w'} k j n = go (dec_lt j a)
  where
    go : Dec (j < a) → get_or w' j 0 ≡ get_or w j 0
    go (yes h) = k.below j h
    go (no h) = k.above j (omega arith)

-- two words are written, one after the other
pub beside : {a b : ℕ} {w w' w'' : List ℕ} → Kept a (a + 1) w w' → Kept b (b + 1) w' w'' → Beside a b w w''
beside p q = record { long = q.long ∙ p.long; rest = λ j m n. kept-other q j n ∙ kept-other p j m }

-- both of them lie in one part
pub Beside-kept : {a b c d : ℕ} {w w' : List ℕ} → c ≤ a → a < d → c ≤ b → b < d → Beside a b w w' → Kept c d w w'
Beside-kept h g l m p = record { long = p.long; below = λ j n. p.rest j (λ e. omega arith) (λ e. omega arith); above = λ j n. p.rest j (λ e. omega arith) (λ e. omega arith) }
