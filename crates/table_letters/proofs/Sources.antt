-- Sources: the source of a listed arc is the configuration among whose arcs it is listed.
use mathlib.Core.Path.{◌≡◌}
use mathlib.Core.List.{List}
use Prim.Native.Nat.{◌+◌, ◌<◌, ◌≤◌, suc, zero, ℕ}
use native.Mathlib.Decide.{dec_lt, ℕ_discrete}
use native.Mathlib.Numerals.{add-one}
use native.Mathlib.Omega.{arith}
use borrow.Author.Tests.{le-leb, le-ltb, lt-leb, lt-ltb}
use Rattle.table_sets.specs.Stepping.{BySource, end_at, start_at}
use Rattle.table_sets.proofs.Laws.{end_below}
use Rattle.word_layout.specs.declared.Block.{Block}
use Rattle.table_letters.specs.Lettered.{last_start, source_of}

-- ---- the last of the first n configurations whose listed arcs start at arc k or before it
record Last (w : List ℕ) (base k n r : ℕ) : Type 0 where
  below : r < n
  starts : start_at w base r ≤ k
  later : (m : ℕ) → r < m → m < n → k < start_at w base m

last-is : (w : List ℕ) (base k n : ℕ) → start_at w base 0 ≤ k → 0 < n → Last w base k n (last_start w base k n)
last-is w base k zero h p = absurd (omega arith)
last-is w base k (suc n) h p = go (dec_lt k (start_at w base n)) (dec_lt 0 n) (last-is w base k n h)
  where
    go : Dec (k < start_at w base n) → Dec (0 < n) → (0 < n → Last w base k n (last_start w base k n)) → Last w base k (suc n) (last_start w base k (suc n))
    go (no g) d ih = unfold last_start in rw (le-leb (start_at w base n) k (omega arith)) (record { below = omega arith; starts = omega arith; later = λ m l u. absurd (omega arith) })
    go (yes g) (no d) ih = let e : n ≡ 0 = omega arith in absurd (omega (arith, h, rw e at g))
    go (yes g) (yes d) ih = unfold last_start in rw (lt-leb (start_at w base n) k g) (let l = ih d in record { below = omega (arith, l.below); starts = l.starts; later = λ m q u. at m q u (ℕ_discrete m n) })
      where
        at : (m : ℕ) → last_start w base k n < m → m < suc n → Dec (m ≡ n) → k < start_at w base m
        at m q u (yes e) = rw e g
        at m q u (no e) = (ih d).later m q (omega arith)

module _ {w : List ℕ} {block : Block} (b : BySource w block) where
  -- the arcs of a configuration end where those of a later one start, or before
  ends : (s m : ℕ) → s < m → m < block.count → end_at w block.base block.count block.plain s ≤ start_at w block.base m
  ends s zero h g = absurd (omega arith)
  ends s (suc m) h g = go (ℕ_discrete s m) (λ l. ends s m l (omega arith))
    where
      next : end_at w block.base block.count block.plain m ≡ start_at w block.base (suc m)
      next = unfold end_at in rw (add-one m, lt-ltb (suc m) block.count g)

      go : Dec (s ≡ m) → (s < m → end_at w block.base block.count block.plain s ≤ start_at w block.base m) → end_at w block.base block.count block.plain s ≤ start_at w block.base (suc m)
      go (yes e) ih = rw e (omega (arith, next))
      go (no n) ih = omega (arith, ih (omega arith), b.rises m (omega arith), next)

  last : (k : ℕ) → 0 < block.count → Last w block.base k block.count (source_of w block k)
  last k h = last-is w block.base k block.count (omega (arith, b.zero h)) h

  -- a configuration among whose arcs k is listed is its source
  pub source_is : (s k : ℕ) → s < block.count → start_at w block.base s ≤ k → k < end_at w block.base block.count block.plain s → (k < block.plain) × (source_of w block k ≡ s)
  source_is s k h low high = (omega (arith, end_below s b), go (dec_lt (source_of w block k) s) (dec_lt s (source_of w block k)))
    where
      l : Last w block.base k block.count (source_of w block k)
      l = last k (omega arith)

      go : Dec (source_of w block k < s) → Dec (s < source_of w block k) → source_of w block k ≡ s
      go (yes p) d = absurd (omega (arith, l.later s p h))
      go (no p) (yes q) = absurd (omega (arith, ends s (source_of w block k) q l.below, l.starts))
      go (no p) (no q) = omega arith

  -- and it is listed among the arcs of its source
  pub source-stands : 0 < block.count → (k : ℕ) → k < block.plain → (source_of w block k < block.count) × (start_at w block.base (source_of w block k) ≤ k) × (k < end_at w block.base block.count block.plain (source_of w block k))
  source-stands h k g = (l.below, l.starts, go (dec_lt (source_of w block k + 1) block.count))
    where
      l : Last w block.base k block.count (source_of w block k)
      l = last k h

      go : Dec (source_of w block k + 1 < block.count) → k < end_at w block.base block.count block.plain (source_of w block k)
      go (yes p) = unfold end_at in rw (lt-ltb (source_of w block k + 1) block.count p) (l.later (source_of w block k + 1) (omega arith) p)
      go (no p) = unfold end_at in rw (le-ltb (source_of w block k + 1) block.count (omega arith)) g
