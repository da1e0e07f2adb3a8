-- Steps: what one turn of the sum over the letters adds.
use Rattle.std.proofs.Common.{◌≡◌, ◌+◌, ◌≤◌, ℕ, List, add-one, get_or, refl}
use Rattle.automata.specs.Lengths.{sum_below}
use Rattle.automata.proofs.Laws.{sum_part}
use Rattle.word_layout.specs.Layout.{counts}
use Rattle.count_sums.specs.Sums.{target_at, targets_sum}

pub targets-none : (w : List ℕ) (from : ℕ) → targets_sum w 0 from ≡ 0
unfolding targets_sum sum_below
targets-none w from = refl

-- a letter more
pub targets-more : (w : List ℕ) (l from : ℕ) → targets_sum w (l + 1) from ≡ targets_sum w l from + get_or w (counts + target_at w (from + l)) 0
unfolding targets_sum sum_below
targets-more w l from = rw add-one

-- the sum so far is no more than the whole
pub targets-part : (w : List ℕ) (l a from : ℕ) → l ≤ a → targets_sum w l from ≤ targets_sum w a from
unfolding targets_sum
targets-part w l a from h = sum_part (λ l. get_or w (counts + target_at w (from + l)) 0) l a h
