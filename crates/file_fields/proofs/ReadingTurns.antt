-- ReadingTurns: the definitions of reading at a place of the whole list, one step and the end: what the loops go by.
use mathlib.Core.Path.{◌≡◌, refl, sym, ◌∙◌}
use mathlib.Core.Bool.{Bool, true, false, cond, not, ◌&&◌, ◌||◌}
use mathlib.Core.List.{List, [], ◌∷◌}
use Prim.Native.Nat.{ℕ, zero, suc, ◌+◌, ◌-◌, ◌*◌, ◌<◌, ◌≤◌}
use native.Mathlib.Nat.{add-zero}
use native.Mathlib.Omega.{arith}
use borrow.Author.Tests.{lt-leb}
use lib.Dec.{ltb, leb, leb-suc-suc, leb-suc-zero}
use lib.ListN.{length, get_or, drop, take, length-drop, length-take, drop_of_length-le}
use lib.Seq.{drop-drop, take_all, drop-cons, get_or-drop}
use Rattle.automata.specs.Letters.{same_key, unlike}
use Rattle.automata.specs.Lists.{any}
use Rattle.file_fields.specs.declared.Counts.{Counts}
use Rattle.file_fields.specs.declared.Reason.TheVariants.{BytesAfterTheLastArc}
use Rattle.file_fields.specs.Parts.{letter_bytes, flag_bytes, first_arc, ascending, ascending_front, unlike_front, flags, flags_front, well_op, well_ops, ops_front, arc_size, arc_tests, arcs_tests, all_hold, first_fault}
use Rattle.file_fields.proofs.TestLaws.{all_append, and_then, fault_append}

-- `&s[at..]` is all that is left
pub tail : (s : List ℕ) (at : ℕ) → take (length s - at) (drop at s) ≡ drop at s
tail s at = take_all (length s - at) (drop at s) (simp length-drop (omega arith))

-- one turn of a loop fewer
pub down : (m i : ℕ) → i < m → m - i ≡ suc (m - (i + 1))
down m i h = omega arith

pub none_left : (m i : ℕ) → m ≤ i → m - i ≡ 0
none_left m i h = omega arith

-- ---- how many at the front ascend strictly, have no byte of their letter behind them, are flags, are operations, and whether one passes
-- a test: one turn and the end
module _ (s : List ℕ) (i : ℕ) where
  pub ascending-at : suc i < length s → ascending_front (drop i s) ≡ suc (cond (ltb (get_or s i 0) (get_or s (suc i) 0)) (ascending_front (drop (suc i) s)) 0)
  unfolding ascending_front
  ascending-at h = rw (drop-cons s i 0 (omega arith), drop-cons s (suc i) 0 h)

  pub unlike-at : i < length s → unlike_front (drop i s) ≡ cond (not (any (same_key (get_or s i 0)) (drop (suc i) s))) (suc (unlike_front (drop (suc i) s))) 0
  unfolding unlike_front
  unlike-at h = rw (drop-cons s i 0 h)

  pub unlike-end : length s ≤ i → unlike_front (drop i s) ≡ 0
  unfolding unlike_front
  unlike-end h = rw (drop_of_length-le s h)

  pub among-at : (t : ℕ → Bool) → i < length s → any t (drop i s) ≡ (t (get_or s i 0) || any t (drop (suc i) s))
  unfolding any
  among-at t h = rw (drop-cons s i 0 h)

  pub among-end : (t : ℕ → Bool) → length s ≤ i → any t (drop i s) ≡ false
  unfolding any
  among-end t h = rw (drop_of_length-le s h)

  pub flags-at : i < length s → flags_front (drop i s) ≡ cond (leb (get_or s i 0) 1) (suc (flags_front (drop (suc i) s))) 0
  unfolding flags_front
  flags-at h = rw (drop-cons s i 0 h)

  pub flags-end : length s ≤ i → flags_front (drop i s) ≡ 0
  unfolding flags_front
  flags-end h = rw (drop_of_length-le s h)

pub ascending-end : (s : List ℕ) (i : ℕ) → length s ≤ suc i → ascending_front (drop i s) ≡ length s - i
unfolding ascending_front
ascending-end s i h = short (drop i s) (simp length-drop (omega arith)) ∙ length-drop i s
  where
    short : (l : List ℕ) → length l ≤ 1 → ascending_front l ≡ length l
    short [] h = refl
    short (x ∷ []) h = refl
    short (x ∷ y ∷ l) h = absurd (omega arith)

module _ (c : Counts) (letter p i : ℕ) where
  pub ops-at : (s : List ℕ) → i < p
      → ops_front c letter (p - i) (drop (2 * i) s) ≡ cond (well_op c letter (get_or s (2 * i) 0) (get_or s (2 * i + 1) 0)) (suc (ops_front c letter (p - (i + 1)) (drop (2 * (i + 1)) s))) 0
  unfolding ops_front
  ops-at s h =
      let f : 2 * (i + 1) ≡ 2 * i + 2 = omega arith in
      rw (down p i h, f, drop-drop 2 (2 * i) s, get_or-drop (2 * i) s 0 0, get_or-drop (2 * i) s 1 0, add-zero)

  pub ops-end : (l : List ℕ) → p ≤ i → ops_front c letter (p - i) l ≡ 0
  unfolding ops_front
  ops-end l h = rw (none_left p i h)

-- ---- all ascend, are unlike, are flags, are operations just if so many at the front are
pub ascending-all : (l : List ℕ) → ascending l ≡ leb (length l) (ascending_front l)
unfolding ascending ascending_front
ascending-all [] = refl
ascending-all (x ∷ []) = refl
ascending-all (x ∷ y ∷ l) = go (ltb x y) (ascending-all (y ∷ l))
  where
    go : (b : Bool) → ascending (y ∷ l) ≡ leb (length (y ∷ l)) (ascending_front (y ∷ l))
        → (b && ascending (y ∷ l)) ≡ leb (length (x ∷ y ∷ l)) (suc (cond b (ascending_front (y ∷ l)) 0))
    go true e = e ∙ sym (leb-suc-suc (length (y ∷ l)) (ascending_front (y ∷ l)))
    go false e = sym (lt-leb (length (x ∷ y ∷ l)) 1 (omega arith))

-- one more in front, which passes its test or not
one_more : (many front : ℕ) (passes : Bool) {all : Bool} → all ≡ leb many front → (passes && all) ≡ leb (suc many) (cond passes (suc front) 0)
one_more many front true e = e ∙ sym (leb-suc-suc many front)
one_more many front false e = sym (leb-suc-zero many)

pub unlike-all : (l : List ℕ) → unlike l ≡ leb (length l) (unlike_front l)
unfolding unlike unlike_front
unlike-all [] = refl
unlike-all (x ∷ l) = one_more (length l) (unlike_front l) (not (any (same_key x) l)) (unlike-all l)

pub flags-all : (l : List ℕ) → flags l ≡ leb (length l) (flags_front l)
unfolding flags flags_front
flags-all [] = refl
flags-all (x ∷ l) = one_more (length l) (flags_front l) (leb x 1) (flags-all l)

pub ops-all : (c : Counts) (letter p : ℕ) (l : List ℕ) → well_ops c letter p l ≡ leb p (ops_front c letter p l)
unfolding well_ops ops_front
ops-all c letter zero l = refl
ops-all c letter (suc p) l = one_more p (ops_front c letter p (drop 2 l)) (well_op c letter (get_or l 0 0) (get_or l 1 0)) (ops-all c letter p (drop 2 l))

-- ---- the arcs that are left
module _ (m i : ℕ) (c : Counts) (at : ℕ) (s : List ℕ) where
  abbrev left : List ℕ
  left = drop at s

  pub arcs-at : i < m
      → first_fault (arcs_tests (m - i) c at left) c ≡ and_then (first_fault (arc_tests c at left) c) (first_fault (arcs_tests (m - (i + 1)) c (at + arc_size left) (drop (at + arc_size left) s)) c)
  unfolding arcs_tests
  arcs-at h = rw (down m i h) (fault_append (arc_tests c at left) (arcs_tests (m - (i + 1)) c (at + arc_size left) (drop (arc_size left) left)) c ∙ simp drop-drop)

  pub arcs-all : i < m
      → all_hold true (arcs_tests (m - i) c at left) ≡ all_hold (all_hold true (arc_tests c at left)) (arcs_tests (m - (i + 1)) c (at + arc_size left) (drop (at + arc_size left) s))
  unfolding arcs_tests
  arcs-all h = rw (down m i h) (all_append true (arc_tests c at left) (arcs_tests (m - (i + 1)) c (at + arc_size left) (drop (arc_size left) left)) ∙ simp drop-drop)

  pub arcs-end : m ≤ i → arcs_tests (m - i) c at left ≡ (leb (length s - at) 0, BytesAfterTheLastArc, at) ∷ []
  unfolding arcs_tests
  arcs-end h = rw (none_left m i h, length-drop)

module _ (c : Counts) (s : List ℕ) where
  pub letters-length : 12 + c.letters ≤ length s → length (letter_bytes c s) ≡ c.letters
  letters-length h = simp (length-take, length-drop) (omega arith)

  pub flags-length : first_arc c ≤ length s → length (flag_bytes c s) ≡ c.states
  flags-length h = simp (length-take, length-drop) (omega arith)

  -- the letters as code lends them, `&s[12..12 + letters]`
  pub lent_letters : take (12 + c.letters - 12) (drop 12 s) ≡ letter_bytes c s
  lent_letters = let e : 12 + c.letters - 12 ≡ c.letters = omega arith in rw e
