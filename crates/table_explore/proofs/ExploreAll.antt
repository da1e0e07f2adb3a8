-- ExploreAll: the walk over the configurations in number order: a turn, leaving it early, and its end.
use mathlib.Core.Path.{◌∙◌, ◌≡◌, ap}
use Prim.Native.Nat.{◌*◌, ◌+◌, ◌-◌, ◌/◌, ◌<◌, ◌≤◌, suc, zero, ℕ}
use borrow.Author.Tests.{eq-eqb, le-leb, ne_eqb}
use lib.Dec.{eqb, leb}
use lib.ListN.{get_or, get_elem?, length, length-append}
use mathlib.Core.Bool.{◌&&◌, cond}
use mathlib.Core.List.{List, [], ◌++◌, ◌∷◌, append-nil}
use mathlib.Core.Option.{some}
use native.Mathlib.Decide.{ℕ_discrete}
use native.Mathlib.Nat.{add-suc, add-zero}
use native.Mathlib.Numerals.{add-one}
use native.Mathlib.Omega.{arith}
use Rattle.automata.specs.Exploration.{add_all, known}
use Rattle.word_layout.specs.Layout.{Placed, block_end, configs, map_end, starts_at}
use Rattle.table_operations.specs.Packed.{hops, tos}
use Rattle.table_configurations.specs.Known.{known_packed, next_packed, plains_of, plains_up_to}
use Rattle.table_configurations.specs.Tables.{Configured, Counted, MetAll, Tabled}
use Rattle.std.specs.Prelude.{Some, None}
use Rattle.word_fields.specs.Fields.{field}
use Rattle.word_fields.specs.Frame.{Kept, KeptBut}
use Rattle.automata.proofs.Laws.{at_none, known-ended, known-long}
use Rattle.table_configurations.proofs.Laws.{all-at, all-length, configured-kept, next_known, placed-kept, tabled-kept}
use Rattle.word_fields.proofs.Laws.{but_high, but_same, but_then, but_wider, field-same}

-- c of the configurations have been walked, those of m arcs at the front of l
pub record Walking (m : ℕ) (l w₀ : List ℕ) (base : ℕ) (w : List ℕ) (count plain c : ℕ) : Type 0 where
  pub kept : KeptBut configs map_end base (block_end base) w₀ w
  pub configured : Configured w count
  pub turns : c ≤ 256
  pub few : plain ≤ c * 2048
  pub tabled : Tabled w base count plain (known_packed m l c) (plains_up_to m l c)
  pub starts : plain ≤ 2048 → (s : ℕ) → s < c → field w (starts_at base) s ≡ length (plains_up_to m l s)

pub walking_start : {m : ℕ} {l w : List ℕ} {base : ℕ} → Configured w 1 → Tabled w base 1 0 (0 ∷ []) [] → Walking m l w base w 1 0 0
unfolding known_packed known plains_up_to
walking_start {w = w} {base = base} g t = record {
  kept = but_same configs map_end base (block_end base) w;
  configured = g;
  turns = omega arith;
  few = omega arith;
  tabled = t;
  starts = λ h s less. absurd (omega arith);
}

-- ---- a turn at configuration c: where its plain arcs start has been noted, in w₁
pub record Noted (m : ℕ) (l w₀ : List ℕ) (base : ℕ) (w w₁ : List ℕ) (count plain c : ℕ) : Type 0 where
  pub few : m ≤ 2048
  pub place : Placed w₀ base
  pub walking : Walking m l w₀ base w count plain c
  pub less : c < count
  pub kept : Kept (starts_at base) (block_end base) w w₁
  pub start : (s : ℕ) → field w₁ (starts_at base) s ≡ cond (leb plain 2048 && eqb s c) plain (field w (starts_at base) s)

module _ {m : ℕ} {l w₀ : List ℕ} {base : ℕ} {w w₁ : List ℕ} {count plain c : ℕ} (n : Noted m l w₀ base w w₁ count plain c) where
  pub placed-noted : Placed w₁ base
  placed-noted = placed-kept (n.kept.long ∙ n.walking.kept.long) n.place

  pub configured-noted : Configured w₁ count
  configured-noted = configured-kept (λ j x y. n.kept.below j (omega (arith, n.place.above))) n.walking.configured

  pub kept-noted : KeptBut configs map_end base (block_end base) w₀ w₁
  kept-noted = but_then n.walking.kept (but_high (omega (arith, n.place.above)) (omega arith) (omega arith) n.kept)

  tabled-noted : Tabled w₁ base count plain (known_packed m l c) (plains_up_to m l c)
  tabled-noted = tabled-kept n.walking.configured.few n.kept.long (λ j x y. n.kept.below j (omega (arith, n.place.above))) (λ j x y. n.kept.below j y) n.walking.tabled

  abbrev own : ℕ
  own = get_or w₁ (configs + c) 0

  own_at : get_elem? (known_packed m l c) c ≡ some own
  own_at = all-at placed-noted n.walking.configured.few tabled-noted c n.less

  next-all : known_packed m l (suc c) ≡ add_all eqb (known_packed m l c) (tos (hops m l own))
  next-all = next_known m l c own own_at

  next-plains : plains_up_to m l (suc c) ≡ plains_up_to m l c ++ plains_of c (known_packed m l c) (hops m l own)
  unfolding plains_up_to
  next-plains = rw own_at

  -- the configuration has been walked
  pub kept-walked : {w₂ : List ℕ} → KeptBut configs map_end base (starts_at base) w₁ w₂ → KeptBut configs map_end base (block_end base) w₀ w₂
  kept-walked k₂ = but_then kept-noted (but_wider (omega arith) (omega arith) (omega arith) (omega arith) k₂)

  pub walking-more : {w₂ : List ℕ} {count' plain' : ℕ} → KeptBut configs map_end base (starts_at base) w₁ w₂ → Counted w₂ count (plain + m) count' plain' → MetAll w₁ w₂ base count plain c (hops m l own) (Some (record { count = count'; plain = plain' }))
      → Walking m l w₀ base w₂ count' plain' (c + 1)
  walking-more {w₂} {count'} {plain'} k₂ s met = record {
    kept = kept-walked k₂;
    configured = s.configured;
    turns = omega (arith, n.less, n.walking.configured.few);
    few = omega (arith, n.few, n.walking.few, s.few);
    tabled = rw (add-one c, next-all, next-plains) t;
    starts = λ h i less. field-same w₁ w₂ (starts_at base) i (k₂.above (starts_at base + i / 4) (omega arith)) ∙ n.start i ∙ start h i less (ℕ_discrete i c);
  }
    where
      t : Tabled w₂ base count' plain' (add_all eqb (known_packed m l c) (tos (hops m l own))) (plains_up_to m l c ++ plains_of c (known_packed m l c) (hops m l own))
      t = met (known_packed m l c) (plains_up_to m l c) tabled-noted

      fewer : plain ≤ plain'
      fewer = omega (arith, t.counted, n.walking.tabled.counted, length-append (plains_up_to m l c) (plains_of c (known_packed m l c) (hops m l own)))

      start : plain' ≤ 2048 → (i : ℕ) → i < c + 1 → Dec (i ≡ c) → cond (leb plain 2048 && eqb i c) plain (field w (starts_at base) i) ≡ length (plains_up_to m l i)
      start h i less (yes e) = rw (le-leb plain 2048 (omega (arith, fewer)), eq-eqb i c e, e) n.walking.tabled.counted
      start h i less (no d) = rw (le-leb plain 2048 (omega (arith, fewer)), ne_eqb i c d) (n.walking.starts (omega (arith, fewer)) i (omega arith))

  -- more than so many met are more than so many in all
  pub walking-over : (L : ℕ) → c < L → (w₂ : List ℕ) → MetAll w₁ w₂ base count plain c (hops m l own) None → 256 < length (known_packed m l L)
  unfolding known_packed
  walking-over L h w₂ met =
      let f = met (known_packed m l c) (plains_up_to m l c) tabled-noted in
      let e : suc c + (L - suc c) ≡ L = omega arith in
      omega (arith, rw e at (known-long eqb (next_packed m l) (0 ∷ []) (suc c) (L - suc c)), ap length next-all)

-- ---- the end: all have been walked
plains-ended : (m : ℕ) (l : List ℕ) (c j : ℕ) → length (known_packed m l c) ≤ c → plains_up_to m l (c + j) ≡ plains_up_to m l c
unfolding plains_up_to known_packed
plains-ended m l c zero h = rw add-zero
plains-ended m l c (suc j) h = rw (add-suc c j, known-ended eqb (next_packed m l) (0 ∷ []) c j h, at_none (known_packed m l c) (c + j) (omega arith), append-nil) (plains-ended m l c j h)

pub walking-end : {m : ℕ} {l w₀ : List ℕ} {base : ℕ} {w : List ℕ} {count plain c : ℕ} (L : ℕ) → Placed w base → Walking m l w₀ base w count plain c → count ≤ c → c ≤ L → Tabled w base count plain (known_packed m l L) (plains_up_to m l L)
unfolding known_packed
walking-end {m} {l} {c = c} L place g h f =
    let e : c + (L - c) ≡ L = omega arith in
    let n : length (known_packed m l c) ≤ c = omega (arith, all-length place g.configured.few g.tabled) in
    rw (← e, known-ended eqb (next_packed m l) (0 ∷ []) c (L - c) n, plains-ended m l c (L - c) n) g.tabled
