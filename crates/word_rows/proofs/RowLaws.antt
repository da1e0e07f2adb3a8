-- RowLaws: laws of rows of four words in lent words.
use mathlib.Core.Path.{◌≡◌, refl, sym, ap, ◌∙◌}
use mathlib.Core.Logic.{◌≢◌}
use mathlib.Core.Bool.{Bool, false, not, ◌||◌, or-false}
use mathlib.Core.List.{List, [], ◌∷◌, ◌++◌, append_assoc}
use Prim.Native.Nat.{ℕ, suc, ◌+◌, ◌*◌, ◌/◌, ◌%◌, ◌^◌, ◌≤◌, ◌<◌}
use native.Mathlib.Decide.{ℕ_discrete, dec_lt}
use native.Mathlib.Numerals.{add-one, add-two, add-three}
use native.Mathlib.Omega.{arith}
use lib.Dec.{eqb, lit<}
use lib.ListN.{length, get_or, take, drop, set, length-take, length-drop, length-set, get_or-eq_default}
use lib.Bits.{bit_and, bit_or}
use lib.Seq.{ext_get_or, get_or-take, get_or-drop, get_or-set_same, get_or-set_other, take_at, drop_at, length-take-le, sets, sets-eq}
use Rattle.word_fields.specs.Frame.{Kept}
use Rattle.word_sets.specs.Sets.{in_set}
use Rattle.word_rows.specs.Rows.{row, related}
use Rattle.word_fields.proofs.Laws.{kept_same, kept_set, kept_then, kept-wider}
use Rattle.word_sets.proofs.Laws.{Four, Four-words, has-set, with_set}

pub row-length : (w : List ℕ) (base i : ℕ) → base + 4 * i + 4 ≤ length w → length (row w base i) ≡ 4
unfolding row
row-length w base i h = simp (length-take, length-drop) (omega arith)

-- word q of row i
pub row_at : (w : List ℕ) (base i q : ℕ) → q < 4 → get_or (row w base i) q 0 ≡ get_or w (base + 4 * i + q) 0
unfolding row
row_at w base i q h = get_or-take 4 (drop (base + 4 * i) w) q 0 h ∙ get_or-drop (base + 4 * i) w q 0

-- a row of words that fit is a set
pub row-four : (w : List ℕ) (base i : ℕ) → base + 4 * i + 4 ≤ length w → ((j : ℕ) → get_or w j 0 < 2 ^ 64) → Four (row w base i)
row-four w base i h f = record { long = row-length w base i h; fits = λ q. go q (dec_lt q 4) }
  where
    go : (q : ℕ) → Dec (q < 4) → get_or (row w base i) q 0 < 2 ^ 64
    go q (yes l) = rw (row_at w base i q l) (f (base + 4 * i + q))
    go q (no l) = rw (get_or-eq_default (row w base i) 0 {n = q} (omega (arith, row-length w base i h))) (lit< tt)

-- one digit of one word tells whether k is in row i
pub holds_row : (w : List ℕ) (base i k : ℕ) → k < 256
    → not (eqb (bit_and (get_or w (base + 4 * i + k / 64) 0) (2 ^ (k % 64))) 0) ≡ related w base i k
unfolding related
holds_row w base i k h = rw (← row_at w base i (k / 64) (omega arith)) (has-set (row w base i) k)

-- a row that holds its own number alone, as `with(empty(), k)` makes it
pub unit_row : (w : List ℕ) (base k : ℕ) (none : List ℕ) {unit : List ℕ} → row w base k ≡ unit → ((j : ℕ) → in_set unit j ≡ (eqb j k || in_set none j))
    → ((j : ℕ) → in_set none j ≡ false) → (j : ℕ) → related w base k j ≡ eqb j k
unfolding related
unit_row w base k none is f g j = ap (λ (s : List ℕ). in_set s j) is ∙ f j ∙ ap (λ (b : Bool). eqb j k || b) (g j) ∙ or-false (eqb j k)

-- ---- frames

-- a row whose words are as they were
pub row_same : (w w' : List ℕ) (base i : ℕ) → length w' ≡ length w
    → ((q : ℕ) → q < 4 → get_or w' (base + 4 * i + q) 0 ≡ get_or w (base + 4 * i + q) 0) → row w' base i ≡ row w base i
unfolding row
row_same w w' base i e f =
    ext_get_or 0 (row w' base i) (row w base i) (simp (length-take, length-drop, e))
    (λ q h. let l : q < 4 = omega (arith, simp (length-take, length-drop) at h) in row_at w' base i q l ∙ f q l ∙ sym (row_at w base i q l))

-- rows below and above what was written
pub row_below : {a b : ℕ} {w w' : List ℕ} (base i : ℕ) → Kept a b w w' → base + 4 * i + 4 ≤ a → row w' base i ≡ row w base i
row_below {w = w} {w' = w'} base i k h = row_same w w' base i k.long (λ q l. k.below (base + 4 * i + q) (omega arith))

pub row-above : {a b : ℕ} {w w' : List ℕ} (base i : ℕ) → Kept a b w w' → b ≤ base + 4 * i → row w' base i ≡ row w base i
row-above {w = w} {w' = w'} base i k h = row_same w w' base i k.long (λ q l. k.above (base + 4 * i + q) (omega arith))

-- the other rows, once row i is written
pub row_other : {w w' : List ℕ} (base i p : ℕ) → Kept (base + 4 * i) (base + 4 * i + 4) w w' → p ≢ i → row w' base p ≡ row w base p
row_other {w} {w'} base i p k n = go (dec_lt p i)
  where
    go : Dec (p < i) → row w' base p ≡ row w base p
    go (yes h) = row_below base p k (omega arith)
    go (no h) = row-above base p k (omega arith)

-- ---- load and store

pub loaded : (w : List ℕ) (base i : ℕ) → base + 4 * i + 4 ≤ length w
    → get_or w (base + 4 * i) 0 ∷ get_or w (base + 4 * i + 1) 0 ∷ get_or w (base + 4 * i + 2) 0 ∷ get_or w (base + 4 * i + 3) 0 ∷ [] ≡ row w base i
loaded w base i h =
    let z : base + 4 * i + 0 ≡ base + 4 * i = omega arith in
    sym (Four-words (row w base i) (row-length w base i h)
    ∙ rw (row_at w base i 0 (lit< tt), row_at w base i 1 (lit< tt), row_at w base i 2 (lit< tt), row_at w base i 3 (lit< tt), z))

-- the words vs are written one after the other
kept_sets : (vs w : List ℕ) (at : ℕ) → Kept at (at + length vs) w (sets w at vs)
kept_sets [] w at = kept_same at (at + 0) w
kept_sets (x ∷ vs) w at =
    kept_then (kept-wider (omega arith) (omega arith) (kept_set w at x)) (kept-wider (omega arith) (omega arith) (kept_sets vs (set w at x) (suc at)))

sets-there : (vs w : List ℕ) (at : ℕ) → at + length vs ≤ length w → take (length vs) (drop at (sets w at vs)) ≡ vs
sets-there vs w at h =
    ap (λ (l : List ℕ). take (length vs) (drop at l)) (sets-eq vs w at h ∙ append_assoc (take at w) vs (drop (at + length vs) w))
    ∙ ap (take (length vs)) (drop_at (take at w) (vs ++ drop (at + length vs) w) at (length-take-le at w (omega arith)))
    ∙ take_at vs (drop (at + length vs) w) (length vs) refl

-- the words of s, one by one
abbrev pub written : List ℕ → ℕ → List ℕ → List ℕ
written w at s = set (set (set (set w at (get_or s 0 0)) (at + 1) (get_or s 1 0)) (at + 2) (get_or s 2 0)) (at + 3) (get_or s 3 0)

pub stored : (w : List ℕ) (base i : ℕ) (s : List ℕ) → base + 4 * i + 4 ≤ length w → length s ≡ 4
    → Kept (base + 4 * i) (base + 4 * i + 4) w (written w (base + 4 * i) s) × (row (written w (base + 4 * i) s) base i ≡ s)
unfolding row
stored w base i s h e =
    let vs : List ℕ = get_or s 0 0 ∷ get_or s 1 0 ∷ get_or s 2 0 ∷ get_or s 3 0 ∷ [] in
    rw (add-one (base + 4 * i), add-two (base + 4 * i), add-three (base + 4 * i))
    (kept_sets vs w (base + 4 * i), sets-there vs w (base + 4 * i) h ∙ sym (Four-words s e))

-- ---- add

-- word q of row i is written
row-set : (w : List ℕ) (base i q x : ℕ) → base + 4 * i + 4 ≤ length w → q < 4 → row (set w (base + 4 * i + q) x) base i ≡ set (row w base i) q x
row-set w base i q x h l =
    ext_get_or 0 (row w'' base i) (set (row w base i) q x) (long ∙ sym (length-set (row w base i) q x ∙ row-length w base i h))
    (λ p m. let n : p < 4 = omega (arith, long) in row_at w'' base i p n ∙ go p n (ℕ_discrete p q))
  where
    w'' : List ℕ
    w'' = set w (base + 4 * i + q) x

    long : length (row w'' base i) ≡ 4
    long = row-length w'' base i (rw (length-set w (base + 4 * i + q) x) h)

    go : (p : ℕ) → p < 4 → Dec (p ≡ q) → get_or w'' (base + 4 * i + p) 0 ≡ get_or (set (row w base i) q x) p 0
    go p n (yes e) =
        rw e (get_or-set_same w (base + 4 * i + q) x 0 (omega arith) ∙ sym (get_or-set_same (row w base i) q x 0 (omega (arith, row-length w base i h))))
    go p n (no e) =
        get_or-set_other w (base + 4 * i + q) (base + 4 * i + p) x 0 (λ s. e (omega arith)) ∙ sym (row_at w base i p n) ∙ sym (get_or-set_other (row w base i) q p x 0 e)

-- one digit of one word is set: k joins row i
pub added : (w : List ℕ) (base i k : ℕ) → k < 256 → base + 4 * i + 4 ≤ length w
    → let w'' = set w (base + 4 * i + k / 64) (bit_or (get_or w (base + 4 * i + k / 64) 0) (2 ^ (k % 64))) in
    Kept (base + 4 * i) (base + 4 * i + 4) w w'' × ((j : ℕ) → related w'' base i j ≡ (eqb j k || related w base i j))
unfolding related
added w base i k h g = (
  kept-wider (omega arith) (omega arith) (kept_set w (base + 4 * i + k / 64) new),
  λ j. ap (λ (s : List ℕ). in_set s j)
      (row-set w base i (k / 64) new g (omega arith)
      ∙ ap (λ (x : ℕ). set (row w base i) (k / 64) (bit_or x (2 ^ (k % 64)))) (sym (row_at w base i (k / 64) (omega arith))))
      ∙ with_set (row w base i) k (omega (arith, row-length w base i g)) j,
)
  where
    new : ℕ
    new = bit_or (get_or w (base + 4 * i + k / 64) 0) (2 ^ (k % 64))
