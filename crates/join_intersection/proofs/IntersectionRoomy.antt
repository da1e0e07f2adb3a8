-- IntersectionRoomy: an intersection of two files by the first's numbers, with room for the letters of both, has the answer of the
-- intersection over these letters, and its counts are within the limits where that is.
use mathlib.Core.Path.{◌≡◌}
use mathlib.Core.Bool.{false}
use mathlib.Core.List.{List}
use Prim.Native.Nat.{ℕ}
use lib.ListN.{length}
use Rattle.automata.specs.Joins.{intersection}
use Rattle.file_fields.specs.declared.Counts.{Counts}
use Rattle.format.specs.Encoding.{sizes}
use Rattle.format.specs.Limits.{Ranges}
use Rattle.file_pair.specs.Pair.{Joinable, letters_of}
use Rattle.file_pair.proofs.Laws.{apart-over}
use Rattle.join_parts.specs.Joining.{beyond, join_of, written_of}
use Rattle.join_parts.specs.OwnNumbers.{Others, roomy}
use Rattle.join_parts.proofs.Laws.{over-same, own-ranges, own-written}
use Rattle.join_product_count.specs.ProductArcs.{product_of}
use Rattle.join_intersection.proofs.IntersectionFits.{intersection-fits}
use Rattle.join_intersection.proofs.IntersectionPut.{intersection-lists, intersection-put}

module _ {a b : Counts} {s t others : List ℕ} (j : Joinable a b s t) (lent : Others s t others) {n : ℕ} (many : n ≡ length (letters_of s t)) where
  pub written-by_own : (space : ℕ) → written_of (roomy n (product_of s others t)) space ≡ written_of (join_of intersection s t) space
  written-by_own = own-written intersection (product_of s others t) 0 j (intersection-lists _ _) (λ one two all o. intersection-put lent o) many

  pub ranges-by_own : beyond (join_of intersection s t) ≡ false → Ranges (sizes (roomy n (product_of s others t)))
  ranges-by_own e =
      let o = (apart-over j).lettered in
      own-ranges intersection (product_of s others t) 0 j (intersection-lists _ _) (λ one two all v. intersection-put lent v) many (intersection-fits _ _ o.fits₁ o.fits₂ (over-same _ _ (letters_of s t) _ _) e).ranges
