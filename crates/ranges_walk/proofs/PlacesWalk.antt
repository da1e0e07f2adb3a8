-- PlacesWalk: the bytes of a word with ranges, walked two by two: what the next two bytes are, and what a place more says of the live sets
-- behind all places.
use Rattle.std.proofs.Common.{Option, Some, None}
use mathlib.Core.Path.{◌∙◌, ◌≡◌, ap, refl, subst, sym}
use mathlib.Core.Logic.{inl, inr}
use mathlib.Core.Bool.{Bool, ◌||◌, false, not, true, true≢false}
use mathlib.Core.List.{List, [], ◌∷◌}
use Prim.Native.Nat.{◌+◌, ◌<◌, ◌≤◌, ℕ}
use native.Mathlib.Decide.{dec_lt}
use native.Mathlib.Omega.{arith}
use borrow.Author.Tests.{le-ltb, lt-ltb, ltb-true, not-false}
use lib.Dec.{T, ltb}
use lib.ListN.{drop, drop_of_length-le, get_or, length}
use Rattle.automata.specs.LiveSets.{same_set}
use Rattle.fillings.specs.Fillings.{Range, behind_place, behind_places, from_to, many_behind}
use Rattle.file_fields.specs.declared.Counts.{Counts}
use Rattle.word_fields.specs.Frame.{Kept}
use Rattle.word_layout.specs.Layout.{before_table, letter_sets, offsets, set_rows, set_table}
use Rattle.word_layout.specs.declared.Block.{Block}
use Rattle.live_table.specs.SetRows.{left_row}
use Rattle.live_search.proofs.Laws.{sets_same}
use Rattle.ranges_promise.specs.RangeAnswers.{bad_ranges, ranges_of}
use Rattle.ranges_walk.specs.Walking.{BehindPlace, Ready, SetsIn, Walked}
use Rattle.ranges_walk.proofs.ByTwos.{Bad-one, Bad-two, ranges-two}
use Rattle.ranges_walk.proofs.WalkFrames.{behind_in, ready-kept}

-- ---- the bytes
-- neither test holds
neither : (p q : Bool) → (p || q) ≡ false → (p ≡ false) × (q ≡ false)
neither false q e = (refl, e)
neither true q e = absurd (true≢false e)

-- the range in the two bytes from i on
abbrev pub range_at : (bytes : List ℕ) (i : ℕ) → Range
range_at bytes i = from_to (get_or bytes i 0) (get_or bytes (i + 1) 0)

-- at byte i there is a place, with a byte more, whose high is a letter; and behind it there are the places of the other bytes
pub record Place (a : ℕ) (bytes : List ℕ) (i : ℕ) : Type 0 where
  pub whole : i + 1 < length bytes
  pub letter : get_or bytes (i + 1) 0 < a
  pub rest : bad_ranges a (drop (i + 2) bytes) ≡ false
  pub ranges : ranges_of (drop i bytes) ≡ range_at bytes i ∷ ranges_of (drop (i + 2) bytes)

place_at : (a : ℕ) (bytes : List ℕ) (i : ℕ) → i < length bytes → bad_ranges a (drop i bytes) ≡ false → Place a bytes i
place_at a bytes i h e = go (dec_lt (i + 1) (length bytes))
  where
    go : Dec (i + 1 < length bytes) → Place a bytes i
    go (no n) = absurd (true≢false (sym (Bad-one bytes i a (omega (arith, n))) ∙ e))
    go (yes n) =
        let high = get_or bytes (i + 1) 0 in
        let f = neither (ltb high (get_or bytes i 0)) (not (ltb high a) || bad_ranges a (drop (i + 2) bytes)) (sym (Bad-two bytes i a n) ∙ e) in
        let g = neither (not (ltb high a)) (bad_ranges a (drop (i + 2) bytes)) f.1 in
        record { whole = n; letter = ltb-true high a (not-false (ltb high a) g.0); rest = g.1; ranges = ranges-two bytes i n }

-- ---- the live sets
module _ {Q : Type 0} (same : Q → Q → Bool) (δ : Q → ℕ → Q) (states : List Q) (r : Range) (rs : List Range) where
  -- more than P behind the first place
  many-over : (P : ℕ) → P < length (behind_place same δ states r) → T (many_behind same δ P states (r ∷ rs))
  unfolding many_behind
  many-over P h = rw (lt-ltb P (length (behind_place same δ states r)) h) tt

  -- no more behind it: the others tell
  many-on : (P : ℕ) → length (behind_place same δ states r) ≤ P → many_behind same δ P states (r ∷ rs) ≡ many_behind same δ P (behind_place same δ states r) rs
  unfolding many_behind
  many-on P h = rw (le-ltb P (length (behind_place same δ states r)) h)

  ends_on : behind_places same δ states (r ∷ rs) ≡ behind_places same δ (behind_place same δ states r) rs
  unfolding behind_places
  ends_on = refl

-- the n rows before a place are those from which the other bytes lead to what all bytes lead to from S
pub record WalkedTo (file w : List ℕ) (n : ℕ) (S : List Bool) (bytes : List ℕ) (i : ℕ) : Type 0 where
  pub sets : List (List Bool)
  pub held : SetsIn file before_table w n sets
  pub many : many_behind same_set (behind_in file) 512 (S ∷ []) (ranges_of bytes) ≡ many_behind same_set (behind_in file) 512 sets (ranges_of (drop i bytes))
  pub ends : behind_places same_set (behind_in file) (S ∷ []) (ranges_of bytes) ≡ behind_places same_set (behind_in file) sets (ranges_of (drop i bytes))

module _ (file : List ℕ) where
  walk_start : {w : List ℕ} {S : List Bool} (bytes : List ℕ) → SetsIn file before_table w 1 (S ∷ []) → WalkedTo file w 1 S bytes 0
  walk_start {w} {S} bytes h = record { sets = S ∷ []; held = h; many = refl; ends = refl }

  module _ {a : ℕ} {w : List ℕ} {n : ℕ} {S : List Bool} (bytes : List ℕ) (i : ℕ) (p : Place a bytes i) (k : WalkedTo file w n S bytes i) where
    abbrev r : Range
    r = range_at bytes i

    -- too many behind the place
    walk-over : ((sets : List (List Bool)) → SetsIn file before_table w n sets → 512 < length (behind_place same_set (behind_in file) sets r)) → T (many_behind same_set (behind_in file) 512 (S ∷ []) (ranges_of bytes))
    walk-over f =
        subst T (sym (k.many ∙ ap (many_behind same_set (behind_in file) 512 k.sets) p.ranges)) (many-over same_set (behind_in file) k.sets r (ranges_of (drop (i + 2) bytes)) 512 (f k.sets k.held))

    -- those behind it become those before the next
    walk_more : {w' : List ℕ} {m : ℕ} → ((sets : List (List Bool)) → SetsIn file before_table w n sets → SetsIn file before_table w' m (behind_place same_set (behind_in file) sets r)) → m ≤ 512 → WalkedTo file w' m S bytes (i + 2)
    walk_more {w'} {m} f few =
        let h = f k.sets k.held in
        let rs = ranges_of (drop (i + 2) bytes) in
        record {
          sets = behind_place same_set (behind_in file) k.sets r;
          held = h;
          many = k.many ∙ ap (many_behind same_set (behind_in file) 512 k.sets) p.ranges ∙ many-on same_set (behind_in file) k.sets r rs 512 (omega (arith, h.many));
          ends = k.ends ∙ ap (behind_places same_set (behind_in file) k.sets) p.ranges ∙ ends_on same_set (behind_in file) k.sets r rs;
        }

  pub walk_end : {w : List ℕ} {n : ℕ} {S : List Bool} (bytes : List ℕ) (i : ℕ) → length bytes ≤ i → n ≤ 512 → WalkedTo file w n S bytes i → Walked file w (S ∷ []) (ranges_of bytes) (Some n)
  unfolding ranges_of many_behind behind_places
  walk_end {w} {n} {S} bytes i h few k =
      let e = drop_of_length-le bytes {i = i} h in
      (k.many ∙ rw e, (few, subst (λ (l : List (List Bool)). SetsIn file before_table w n l) (sym (k.ends ∙ rw e)) k.held))

-- ---- the loop over the places: the bytes before i are walked, and n live sets stand before the next place
pub record Passed (file : List ℕ) (c : Counts) (block : Block) (bytes w₀ w : List ℕ) (n i : ℕ) : Type 0 where
  pub ready : Ready file c w block
  pub long : length w ≡ length w₀
  pub few : n ≤ 512
  pub sound : bad_ranges c.letters (drop i bytes) ≡ false
  pub walks : (S : List Bool) → SetsIn file before_table w₀ 1 (S ∷ []) → WalkedTo file w n S bytes i

pub passed_start : {file : List ℕ} {c : Counts} {block : Block} {bytes w : List ℕ} → Ready file c w block → bad_ranges c.letters bytes ≡ false → Passed file c block bytes w w 1 0
passed_start {file} {c} {block} {bytes} {w} r e = record { ready = r; long = refl; few = omega arith; sound = e; walks = λ S h. walk_start file bytes h }

-- the place at byte i
pub passed-place : {file : List ℕ} {c : Counts} {block : Block} {bytes w₀ w : List ℕ} {n i : ℕ} → Passed file c block bytes w₀ w n i → i < length bytes → Place c.letters bytes i
passed-place {c = c} {bytes = bytes} {i = i} p l = place_at c.letters bytes i l p.sound

module _ {file : List ℕ} {c : Counts} {block : Block} {bytes w₀ w : List ℕ} {n i : ℕ} (w' : List ℕ) (r : Option ℕ) (p : Passed file c block bytes w₀ w n i) (l : i < length bytes)
    (f : (sets : List (List Bool)) → SetsIn file before_table w n sets → BehindPlace file w' (behind_place same_set (behind_in file) sets (range_at bytes i)) r) where
  pub passed_over : r ≡ None → (S : List Bool) → SetsIn file before_table w₀ 1 (S ∷ []) → Walked file w' (S ∷ []) (ranges_of bytes) None
  passed_over e S h = walk-over file bytes i (passed-place p l) (p.walks S h) (λ sets k. subst (λ (r : Option ℕ). BehindPlace file w' (behind_place same_set (behind_in file) sets (range_at bytes i)) r) e (f sets k))

  pub passed-more : {m : ℕ} {w'' : List ℕ} → r ≡ Some m → Kept set_rows (letter_sets + 256) w w' → m ≤ 512 → Kept 0 offsets w' w'' → ((i : ℕ) → i < m → left_row before_table w'' i ≡ left_row set_table w' i)
      → Passed file c block bytes w₀ w'' m (i + 2)
  passed-more {m} {w''} e k few copied rows = record {
    ready = ready-kept (ready-kept p.ready (inr (omega arith)) k) (inl (omega arith)) copied;
    long = copied.long ∙ k.long ∙ p.long;
    few = few;
    sound = (passed-place p l).rest;
    walks = λ S h. walk_more file bytes i (passed-place p l) (p.walks S h)
        (λ sets q. sets_same rows (subst (λ (r : Option ℕ). BehindPlace file w' (behind_place same_set (behind_in file) sets (range_at bytes i)) r) e (f sets q))) few;
  }
