-- Fronts: what stands at a place of a text, by the bytes there; a place takes one byte at least, and no more than there are.
use mathlib.Core.Path.{◌≡◌, refl, subst}
use mathlib.Core.Bool.{Bool, ◌&&◌, cond, false, true}
use mathlib.Core.List.{List}
use Prim.Native.Nat.{ℕ, ◌+◌, ◌-◌, ◌<◌, ◌≤◌}
use native.Mathlib.Nat.{add-zero}
use native.Mathlib.Omega.{arith}
use borrow.Author.Tests.{eq-eqb, le-leb, leb-true, lt-leb, ne_eqb}
use lib.Dec.{eqb, leb}
use lib.ListN.{drop, get_or, length, length-drop}
use lib.Seq.{get_or-drop}
use Rattle.std.specs.Prelude.{Option, Some, None, Result, Ok, Err}
use Rattle.file_fields.specs.Letters.{letter_number}
use Rattle.file_fields.proofs.Laws.{and_both}
use Rattle.book_ranges.specs.declared.Place.{Place}
use Rattle.book_ranges.specs.declared.NoPlace.{NoPlace}
use Rattle.book_ranges.specs.declared.NoPlace.TheVariants.{NoRange}
use Rattle.book_ranges.specs.Typing.{is_shaped, place_front, range_between, range_front, single}

module _ (letters text : List ℕ) (i : ℕ) where
  -- ---- a `[`, by the bytes behind it
  pub too_short : length text - i < 5 → range_front letters (drop i text) ≡ Err NoRange
  too_short h = rw (length-drop i text, lt-leb 5 (length text - i) h)

  module _ (h : 5 ≤ length text - i) where
    pub no_dash : (get_or text (i + 2) 0 ≡ 0x2D → ⊥) → range_front letters (drop i text) ≡ Err NoRange
    no_dash n = rw (length-drop i text, le-leb 5 (length text - i) h, get_or-drop i text 2 0, ne_eqb (get_or text (i + 2) 0) 0x2D n)

    pub no_end : get_or text (i + 2) 0 ≡ 0x2D → (get_or text (i + 4) 0 ≡ 0x5D → ⊥) → range_front letters (drop i text) ≡ Err NoRange
    no_end d n = rw (length-drop i text, le-leb 5 (length text - i) h, get_or-drop i text 2 0, get_or-drop i text 4 0, eq-eqb (get_or text (i + 2) 0) 0x2D d, ne_eqb (get_or text (i + 4) 0) 0x5D n)

    pub a-range : get_or text (i + 2) 0 ≡ 0x2D → get_or text (i + 4) 0 ≡ 0x5D
        → range_front letters (drop i text) ≡ range_between (letter_number letters (get_or text (i + 1) 0)) (letter_number letters (get_or text (i + 3) 0))
    a-range d e =
        rw (length-drop i text, le-leb 5 (length text - i) h, get_or-drop i text 1 0, get_or-drop i text 2 0, get_or-drop i text 3 0, get_or-drop i text 4 0, eq-eqb (get_or text (i + 2) 0) 0x2D d, eq-eqb (get_or text (i + 4) 0) 0x5D e)

  -- ---- any byte
  pub at_bracket : get_or text i 0 ≡ 0x5B → place_front letters (drop i text) ≡ range_front letters (drop i text)
  at_bracket e = rw (get_or-drop i text 0 0, add-zero, eq-eqb (get_or text i 0) 0x5B e)

  pub at_other : (get_or text i 0 ≡ 0x5B → ⊥) → place_front letters (drop i text) ≡ single (letter_number letters (get_or text i 0))
  at_other n = rw (get_or-drop i text 0 0, add-zero, ne_eqb (get_or text i 0) 0x5B n)

-- ---- how many bytes a place takes
-- one at least and n at most
abbrev Takes : ℕ → Result Place NoPlace → Type 0
Takes n (Ok place) = (1 ≤ place.taken) × (place.taken ≤ n)
Takes n (Err why) = Unit {0}

single-takes : (n : ℕ) → 1 ≤ n → (l : Option ℕ) → Takes n (single l)
single-takes n h (Some l) = (omega arith, h)
single-takes n h None = tt

Range-takes : (n : ℕ) → 5 ≤ n → (low high : Option ℕ) → Takes n (range_between low high)
Range-takes n h (Some l) (Some k) = (omega arith, h)
Range-takes n h (Some l) None = tt
Range-takes n h None high = tt

either : (n : ℕ) (p q : Result Place NoPlace) (b : Bool) → (b ≡ true → Takes n p) → Takes n q → Takes n (cond b p q)
either n p q true one other = one refl
either n p q false one other = other

module _ (letters text : List ℕ) where
  abbrev letter_at : ℕ → Option ℕ
  letter_at k = letter_number letters (get_or text k 0)

  shaped_long : is_shaped text ≡ true → 5 ≤ length text
  shaped_long e =
      let five = leb 5 (length text) in
      let dash = eqb (get_or text 2 0) 0x2D in
      leb-true 5 (length text) (and_both five dash (and_both (five && dash) (eqb (get_or text 4 0) 0x5D) e).0).0

  range_front-takes : Takes (length text) (range_front letters text)
  range_front-takes = either (length text) (range_between (letter_at 1) (letter_at 3)) (Err NoRange) (is_shaped text) (λ e. Range-takes (length text) (shaped_long e) (letter_at 1) (letter_at 3)) tt

  front-takes : 1 ≤ length text → Takes (length text) (place_front letters text)
  front-takes h = either (length text) (range_front letters text) (single (letter_at 0)) (eqb (get_or text 0 0) 0x5B) (λ e. range_front-takes) (single-takes (length text) h (letter_at 0))

-- a place that stands at byte i
pub place-takes : (letters text : List ℕ) (i : ℕ) {place : Place} → i < length text → place_front letters (drop i text) ≡ Ok place → (1 ≤ place.taken) × (i + place.taken ≤ length text)
place-takes letters text i h e =
    let all = length-drop i text in
    let t = subst (Takes (length (drop i text))) e (front-takes letters (drop i text) (omega (arith, all))) in
    (t.0, omega (arith, all, t.1))
