-- Sums: what the words of counting sum to, and how many words of one length there are.
use Rattle.std.specs.Prelude.{◌≡◌, List, Option, Some, None, ℕ, ◌+◌, ◌^◌, ◌≤◌, ◌<◌, get_or, length}
use Rattle.automata.specs.Lengths.{sum_below}
use Rattle.word_fields.specs.Fields.{field}
use Rattle.word_layout.specs.Layout.{counts, targets}

-- the number of the set that stands in field k of the targets
abbrev pub target_at : List ℕ → ℕ → ℕ
target_at w k = field w targets k

-- the sum of the counts of the sets whose numbers stand in the a fields from `from` on
unfoldable pub targets_sum : (w : List ℕ) (a from : ℕ) → ℕ
unfolding sum_below
targets_sum w a from = sum_below a (λ l. get_or w (counts + target_at w (from + l)) 0)

-- the a fields from `from` on hold numbers of sets, and the sum of their counts is at most `most`
pub record Summable (w : List ℕ) (a from most : ℕ) : Type 0 where
  pub room : targets + 1024 ≤ length w
  pub fields : from + a ≤ 4096
  pub numbers : (l : ℕ) → l < a → target_at w (from + l) < 512
  pub fits : targets_sum w a from ≤ most

-- how many words of n letters there are over a letters: so many, or more than `most`
abbrev pub TotalOf : (most a n : ℕ) → Option ℕ → Type 0
TotalOf most a n (Some p) = p ≡ a ^ n
TotalOf most a n None = most < a ^ n
