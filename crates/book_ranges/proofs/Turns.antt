-- Turns: the loop over a typed word: what is so before each turn, and what it gives where it ends.
use mathlib.Core.Path.{◌≡◌, refl, sym, ap, ◌∙◌}
use mathlib.Core.List.{List, [], ◌∷◌, ◌++◌, append_assoc, append-nil}
use Prim.Native.Nat.{ℕ, zero, suc, ◌+◌, ◌-◌, ◌*◌, ◌<◌, ◌≤◌}
use native.Mathlib.Numerals.{add-one}
use native.Mathlib.Omega.{arith}
use lib.ListN.{drop, drop_of_length-le, length, length-append, length-set, set, take, take-append-drop}
use lib.Seq.{drop_at, drop-cons, drop-drop, length-take-le, sets-eq, take_at}
use Rattle.book_ranges.specs.declared.Place.{Place}
use Rattle.std.specs.Prelude.{Result, Ok, Err}
use Rattle.book_ranges.specs.declared.NoPlace.{NoPlace}
use Rattle.book_ranges.specs.declared.NoPlace.TheVariants.{Foreign, NoRange}
use Rattle.book_ranges.specs.declared.Unread.{Unread}
use Rattle.book_ranges.specs.declared.Unread.TheVariants.{NoLetter, NoRange as NoRangeAt}
use Rattle.book_ranges.specs.Typing.{place_then, answer_from, bytes_of, in_front, place_front, places_from, places_of, typed_of}
use Rattle.book_ranges.proofs.Fronts.{place-takes}

-- ---- what stands in the text from byte i on, by what stands there
-- bytes of the place before are passed over
skipped : (letters : List ℕ) (k : ℕ) (text : List ℕ) → places_from letters k text ≡ places_of letters (drop k text)
unfolding places_from
skipped letters zero [] = refl
skipped letters zero (b ∷ text) = refl
skipped letters (suc k) [] = refl
skipped letters (suc k) (b ∷ text) = skipped letters k text

module _ (letters text : List ℕ) (i : ℕ) where
  abbrev pub here : Result Place NoPlace
  here = place_front letters (drop i text)

  abbrev pub left : List (Result Place NoPlace)
  left = places_of letters (drop i text)

  left_at : i < length text → left ≡ place_then here (λ taken. places_from letters (taken - 1) (drop (suc i) text))
  unfolding places_from
  left_at h = rw (drop-cons text i 0 h)

  left_end : length text ≤ i → left ≡ []
  unfolding places_from
  left_end h = rw (drop_of_length-le text h)

-- a place stands there, and behind it what stands behind its bytes
left-place : (letters text : List ℕ) (i : ℕ) {place : Place} → i < length text → here letters text i ≡ Ok place → left letters text i ≡ Ok place ∷ left letters text (i + place.taken)
left-place letters text i {place} h e =
    let t = place-takes letters text i h e in
    let behind : suc i + (place.taken - 1) ≡ i + place.taken = omega (arith, t.0) in
    let rest = skipped letters (place.taken - 1) (drop (suc i) text) ∙ ap (places_of letters) (drop-drop (place.taken - 1) (suc i) text ∙ ap (λ (k : ℕ). drop k text) behind) in
    left_at letters text i h ∙ rw e (ap (λ (l : List (Result Place NoPlace)). Ok place ∷ l) rest)

-- ---- the loop
-- before the turn that looks at byte i: n bytes are written to `places`, which held `before`
pub record Reading (letters text before places : List ℕ) (n i : ℕ) : Type 0 where
  pub passed : i ≤ length text
  pub few : n ≤ 2 * i
  pub same : length places ≡ length before
  pub kept : drop n places ≡ drop n before
  pub written : bytes_of (places_of letters text) ≡ take n places ++ bytes_of (left letters text i)
  pub answer : typed_of letters text ≡ answer_from (i + 1) n (left letters text i)

pub Reading-start : (letters text before : List ℕ) → Reading letters text before before 0 0
unfolding typed_of
Reading-start letters text before = record { passed = omega arith; few = omega arith; same = refl; kept = refl; written = refl; answer = refl }

-- two bytes stored one behind the other
module _ (l : List ℕ) (n low high : ℕ) (h : n + 2 ≤ length l) where
  abbrev stored : List ℕ
  stored = set (set l n low) (n + 1) high

  stored_is : stored ≡ (take n l ++ (low ∷ high ∷ [])) ++ drop (n + 2) l
  stored_is = rw add-one (sets-eq (low ∷ high ∷ []) l n h)

  front_length : length (take n l ++ (low ∷ high ∷ [])) ≡ n + 2
  front_length = length-append (take n l) (low ∷ high ∷ []) ∙ ap (λ (k : ℕ). k + 2) (length-take-le n l (omega arith))

  stored-front : take (n + 2) stored ≡ take n l ++ (low ∷ high ∷ [])
  stored-front = ap (take (n + 2)) stored_is ∙ take_at (take n l ++ (low ∷ high ∷ [])) (drop (n + 2) l) (n + 2) front_length

  stored-behind : drop (n + 2) stored ≡ drop (n + 2) l
  stored-behind = ap (drop (n + 2)) stored_is ∙ drop_at (take n l ++ (low ∷ high ∷ [])) (drop (n + 2) l) (n + 2) front_length

module _ {letters text before places : List ℕ} {n i : ℕ} (r : Reading letters text before places n i) (room : 2 * length text ≤ length before) where
  -- ---- a turn
  module _ (h : i < length text) where
    -- two bytes have room
    pub room-left : n + 2 ≤ length places
    room-left = omega (arith, r.few, r.same)

    -- a place
    pub Reading-more : {place : Place} → here letters text i ≡ Ok place → Reading letters text before (set (set places n place.low) (n + 1) place.high) (n + 2) (i + place.taken)
    unfolding bytes_of answer_from
    Reading-more {place} e =
        let t = place-takes letters text i h e in
        let l = left-place letters text i h e in
        let at : i + 1 + place.taken ≡ i + place.taken + 1 = omega arith in
        record {
          passed = t.1;
          few = omega (arith, r.few, t.0);
          same = length-set (set places n place.low) (n + 1) place.high ∙ length-set places n place.low ∙ r.same;
          kept = stored-behind places n place.low place.high room-left ∙ sym (drop-drop 2 n places) ∙ ap (drop 2) r.kept ∙ drop-drop 2 n before;
          written = r.written ∙ rw (l, stored-front places n place.low place.high room-left) (sym (append_assoc (take n places) (place.low ∷ place.high ∷ []) (bytes_of (left letters text (i + place.taken)))));
          answer = r.answer ∙ rw l (ap (λ (k : ℕ). answer_from k (n + 2) (left letters text (i + place.taken))) at);
        }

  -- ---- the end
  -- this is answered, and the bytes of the places are written
  abbrev Ends : Result ℕ Unread → Type 0
  Ends t = (t ≡ typed_of letters text) × (places ≡ in_front (bytes_of (places_of letters text)) before)

  -- where no place is left
  ends : (t : Result ℕ Unread) → answer_from (i + 1) n (left letters text i) ≡ t → bytes_of (left letters text i) ≡ [] → Ends t
  ends t a e =
      let all : bytes_of (places_of letters text) ≡ take n places = r.written ∙ rw e (append-nil (take n places)) in
      let many : length (take n places) ≡ n = length-take-le n places (omega (arith, r.few, r.same, r.passed)) in
      (sym (r.answer ∙ a), rw (all, many, ← r.kept) (sym (take-append-drop n places)))

  pub ends_foreign : i < length text → here letters text i ≡ Err Foreign → Ends (Err NoLetter)
  unfolding bytes_of answer_from
  ends_foreign h e = let l : left letters text i ≡ Err Foreign ∷ [] = left_at letters text i h ∙ rw e in ends (Err NoLetter) (rw l) (rw l)

  pub ends-unread : i < length text → here letters text i ≡ Err NoRange → Ends (Err (NoRangeAt (i + 1)))
  unfolding bytes_of answer_from
  ends-unread h e = let l : left letters text i ≡ Err NoRange ∷ [] = left_at letters text i h ∙ rw e in ends (Err (NoRangeAt (i + 1))) (rw l) (rw l)

  pub ends-text : length text ≤ i → Ends (Ok n)
  unfolding bytes_of answer_from
  ends-text h = let l = left_end letters text i h in ends (Ok n) (rw l) (rw l)
