-- ProductArcLaws: arcs of an intersection, made of the arcs of its files as loops meet them.
use mathlib.Core.Path.{◌≡◌, ◌∙◌, ap, refl, sym}
use mathlib.Core.Logic.{◌≢◌}
use mathlib.Core.Bool.{Bool, true, false}
use mathlib.Core.List.{List, [], ◌∷◌, ◌++◌, append-nil, map, flat_map}
use mathlib.Core.Option
use mathlib.Core.Option.{Option, none, some}
use Prim.Native.Nat.{ℕ, ◌+◌, ◌-◌, ◌<◌, ◌≤◌}
use native.Mathlib.Omega.{arith}
use borrow.Author.Tests.{eq-eqb, ne_eqb}
use lib.Dec.{eqb}
use lib.ListN.{length, drop, get_or, length-append, length-map}
use Rattle.automata.specs.Automaton.{Arc}
use Rattle.automata.specs.Lists.{keep, count_from, same_letter}
use Rattle.automata.specs.Joins.{alike, arc_both, arc_left, is_empty_move, moved_op}
use Rattle.relettering.specs.Relettering.{letter_by, relettered_arc}
use Rattle.file_fields.specs.declared.Counts.{Counts}
use Rattle.format.specs.Decoding.{arc_of, arcs_of, letter_of}
use Rattle.file_fields.specs.Parts.{arc_size}
use Rattle.file_laws.proofs.Laws.{ops-count, valid-letters}
use Rattle.join_parts.proofs.Laws.{ArcHere, arc-at, arcs-next, arcs-none}
use Rattle.join_product_count.specs.ProductArcs.{FirstArc, Matches, beside_each, empty_with, first_with, joint_with}
use Rattle.join_product_count.proofs.OtherLetters.{others-few}

-- ---- letters as bytes
empty-unlike : (u : ℕ) (β : Option ℕ) → u ≡ 255 → alike (letter_of u) β ≡ false
unfolding alike letter_of
empty-unlike u β e = rw (eq-eqb u 255 e)

lettered-some : (u : ℕ) → u ≢ 255 → letter_of u ≡ some u
unfolding letter_of
lettered-some u h = rw (ne_eqb u 255 h)

-- the letter l of the first, whose number in the second is u, beside the letter of the byte v there
module _ {c : Counts} (new : List ℕ) {l u : ℕ} (w : Matches c new l u) (v : ℕ) (inside : (j : ℕ) → letter_of v ≡ some j → j < c.letters) where
  same_alike : u ≡ v → alike (some l) (Option.map (letter_by new) (letter_of v)) ≡ true
  unfolding alike same_letter
  same_alike e =
      let t = lettered-some v (λ d. w.lettered (e ∙ d)) in
      rw (t, eq-eqb l (letter_by new v) (sym (rw e at w.numbered (inside v t))))

  other_unlike : u ≢ v → alike (some l) (Option.map (letter_by new) (letter_of v)) ≡ false
  unfolding alike letter_of same_letter
  other_unlike d = go (eqb v 255) refl
    where
      go : (t : Bool) → eqb v 255 ≡ t → alike (some l) (Option.map (letter_by new) (letter_of v)) ≡ false
      go true e = rw e
      go false e = rw (e, ne_eqb l (letter_by new v) (λ s. d (w.only v (inside v (rw e)) (sym s))))

empty-move : (u : ℕ) → u ≡ 255 → is_empty_move (letter_of u) ≡ true
unfolding is_empty_move letter_of
empty-move u e = rw (eq-eqb u 255 e)

lettered-not : (u : ℕ) → u ≢ 255 → is_empty_move (letter_of u) ≡ false
unfolding is_empty_move letter_of
lettered-not u h = rw (ne_eqb u 255 h)

-- ---- an arc at a place, field by field
module _ (s : List ℕ) (from : ℕ) where
  abbrev arc : Arc
  arc = arc_of (drop from s)

  pub source-at : arc.source ≡ get_or s from 0
  source-at = ap (λ (x : Arc). x.source) (arc-at s from)

  pub letter_at : arc.letter ≡ letter_of (get_or s (from + 1) 0)
  letter_at = ap (λ (x : Arc). x.letter) (arc-at s from)

  lettered-at : {v : ℕ} → v ≡ get_or s (from + 1) 0 → v ≢ 255 → arc.letter ≡ some v
  lettered-at {v} e h = letter_at ∙ ap letter_of (sym e) ∙ lettered-some v h

  pub target_at_lem : arc.target ≡ get_or s (from + 2) 0
  target_at_lem = ap (λ (x : Arc). x.target) (arc-at s from)

  pub ops-at : length arc.ops ≡ get_or s (from + 3) 0
  ops-at = ap (λ (x : Arc). length x.ops) (arc-at s from) ∙ ops-count (get_or s (from + 3) 0) (drop (from + 4) s)

-- the letter l of an arc of the first, which is looked for among the second's
pub record Wanted (c : Counts) (s others : List ℕ) (x : Arc) (l : ℕ) : Type 0 where
  pub letter : x.letter ≡ some l
  pub inside : l < c.letters
  pub asked : (l < 64) × (12 + l < length s) × (length others ≤ 64)

-- as code finds it, by its byte
pub wanted : {b : Counts} {s t others : List ℕ} {from l : ℕ} (f : FirstArc b s t others from) → l ≡ get_or s (from + 1) 0 → l ≢ 255 → Wanted f.counts s others (arc_of (drop from s)) l
wanted {s = s} {from = from} {l = l} f e h =
    let p = lettered-at s from e h in
    let inside = f.lettered l p in
    let few = valid-letters s f.counts f.files.first in
    record { letter = p; inside = inside; asked = (omega arith, omega arith, others-few f.files) }

pub ops-here : (l : List ℕ) → length (arc_of l).ops ≡ get_or l 3 0
unfolding arc_of
ops-here l = ops-count (get_or l 3 0) (drop 4 l)

-- ---- arcs made of each that is left, one step and the end
module _ (g : Arc → List Arc) (c : Counts) (s : List ℕ) (m i from : ℕ) where
  abbrev here : List ℕ
  here = drop from s

  abbrev later : List Arc
  later = flat_map g (arcs_of (m - (i + 1)) (drop (from + arc_size here) s))

  pub flat_next : i < m → flat_map g (arcs_of (m - i) here) ≡ g (arc_of here) ++ later
  unfolding flat_map
  flat_next h = rw (arcs-next c s m i from h)

  pub flat_none : m ≤ i → flat_map g (arcs_of (m - i) here) ≡ []
  unfolding flat_map
  flat_none h = rw (arcs-none c s m i from h)

-- nothing of any of them
flat_nothing : (g : Arc → List Arc) → ((x : Arc) → g x ≡ []) → (l : List Arc) → flat_map g l ≡ []
unfolding flat_map
flat_nothing g e [] = refl
flat_nothing g e (x ∷ l) = rw (e x, flat_nothing g e l)

keep-none : {A : Type 0} (t : Bool) (l : List A) → t ≡ false → keep t l ≡ []
unfolding keep
keep-none t l e = rw e

keep_all : {A : Type 0} (t : Bool) (l : List A) → t ≡ true → keep t l ≡ l
unfolding keep
keep_all t l e = rw e

-- an empty move has no joint arc
pub joint_nothing : (n k : ℕ) (l : List Arc) (x : Arc) (u : ℕ) → x.letter ≡ letter_of u → u ≡ 255 → joint_with n k l x ≡ []
joint_nothing n k l x u letter e =
    flat_nothing (λ (y : Arc). keep (alike x.letter y.letter) (arc_both n k x y ∷ [])) (λ y. keep-none (alike x.letter y.letter) (arc_both n k x y ∷ []) (rw letter (empty-unlike u y.letter e))) l

-- but stands beside each state; an arc with a letter beside none
module _ (f : Arc → ℕ → Arc) (n : ℕ) (x : Arc) (u : ℕ) (letter : x.letter ≡ letter_of u) where
  Beside-all : u ≡ 255 → beside_each f n x ≡ map (f x) (count_from 0 n)
  Beside-all e = keep_all (is_empty_move x.letter) (map (f x) (count_from 0 n)) (rw letter (empty-move u e))

  beside_nothing : u ≢ 255 → beside_each f n x ≡ []
  beside_nothing d = keep-none (is_empty_move x.letter) (map (f x) (count_from 0 n)) (rw letter (lettered-not u d))

-- so an arc of the first gives one or the other
module _ (n k : ℕ) (l : List Arc) (x : Arc) (u : ℕ) (letter : x.letter ≡ letter_of u) where
  pub first-empty : u ≡ 255 → first_with n k l x ≡ map (arc_left n x) (count_from 0 n)
  first-empty e = rw (joint_nothing n k l x u letter e) (Beside-all (arc_left n) n x u letter e)

  pub first-lettered : u ≢ 255 → first_with n k l x ≡ joint_with n k l x
  first-lettered d = rw (beside_nothing (arc_left n) n x u letter d) (append-nil (joint_with n k l x))

-- the arc x with the letter l, whose number in the second is u, with those that are left
module _ (n k : ℕ) (x : Arc) {l u : ℕ} (letter : x.letter ≡ some l) {c : Counts} (s new : List ℕ) (w : Matches c new l u) (m i from : ℕ) where
  abbrev y : Arc
  y = relettered_arc new (arc_of (drop from s))

  abbrev joint_later : List Arc
  joint_later = joint_with n k (map (relettered_arc new) (arcs_of (m - (i + 1)) (drop (from + arc_size (drop from s)) s))) x

  inside : ArcHere c s from → (j : ℕ) → letter_of (get_or s (from + 1) 0) ≡ some j → j < c.letters
  inside a j e = a.fits.lettered j (letter_at s from ∙ e)

  joint_step : i < m → (t : List Arc) → keep (alike x.letter y.letter) (arc_both n k x y ∷ []) ≡ t → joint_with n k (map (relettered_arc new) (arcs_of (m - i) (drop from s))) x ≡ t ++ joint_later
  unfolding flat_map
  joint_step h t e = ap (λ (r : List Arc). joint_with n k (map (relettered_arc new) r) x) (arcs-next c s m i from h) ∙ ap (λ (r : List Arc). r ++ joint_later) e

  pub joint_next : i < m → ArcHere c s from → u ≡ get_or s (from + 1) 0 → joint_with n k (map (relettered_arc new) (arcs_of (m - i) (drop from s))) x ≡ (arc_both n k x y ∷ []) ++ joint_later
  joint_next h a e =
      let t : alike x.letter y.letter ≡ true = rw (letter, letter_at s from) (same_alike new w (get_or s (from + 1) 0) (inside a) e) in
      joint_step h (arc_both n k x y ∷ []) (keep_all (alike x.letter y.letter) (arc_both n k x y ∷ []) t)

  pub joint_skip : i < m → ArcHere c s from → u ≢ get_or s (from + 1) 0 → joint_with n k (map (relettered_arc new) (arcs_of (m - i) (drop from s))) x ≡ joint_later
  joint_skip h a d =
      let t : alike x.letter y.letter ≡ false = rw (letter, letter_at s from) (other_unlike new w (get_or s (from + 1) 0) (inside a) d) in
      joint_step h [] (keep-none (alike x.letter y.letter) (arc_both n k x y ∷ []) t)

pub joint_none : (n k : ℕ) (x : Arc) (new : List ℕ) (c : Counts) (s : List ℕ) (m i from : ℕ) → m ≤ i → joint_with n k (map (relettered_arc new) (arcs_of (m - i) (drop from s))) x ≡ []
unfolding flat_map
joint_none n k x new c s m i from h = ap (λ (r : List Arc). joint_with n k (map (relettered_arc new) r) x) (arcs-none c s m i from h)

-- empty moves that are left, each with n states
module _ (f : Arc → ℕ → Arc) (n : ℕ) (c : Counts) (s : List ℕ) (m i from : ℕ) where
  abbrev x : Arc
  x = arc_of (drop from s)

  abbrev empties_later : List Arc
  empties_later = empty_with f n (arcs_of (m - (i + 1)) (drop (from + arc_size (drop from s)) s))

  pub empty-next : i < m → get_or s (from + 1) 0 ≡ 255 → empty_with f n (arcs_of (m - i) (drop from s)) ≡ map (f x) (count_from 0 n) ++ empties_later
  empty-next h e = flat_next (beside_each f n) c s m i from h ∙ ap (λ (r : List Arc). r ++ empties_later) (Beside-all f n x (get_or s (from + 1) 0) (letter_at s from) e)

  pub empty-skip : i < m → get_or s (from + 1) 0 ≢ 255 → empty_with f n (arcs_of (m - i) (drop from s)) ≡ empties_later
  empty-skip h d = flat_next (beside_each f n) c s m i from h ∙ ap (λ (r : List Arc). r ++ empties_later) (beside_nothing f n x (get_or s (from + 1) 0) (letter_at s from) d)

pub empty-none : (f : Arc → ℕ → Arc) (n : ℕ) (c : Counts) (s : List ℕ) (m i from : ℕ) → m ≤ i → empty_with f n (arcs_of (m - i) (drop from s)) ≡ []
empty-none f n = flat_none (beside_each f n)

-- an empty move has no letter, so new numbers change none of them
module _ (f : Arc → ℕ → Arc) (n : ℕ) (new : List ℕ) (same : (x : Arc) → f (relettered_arc new x) ≡ f x) where
  moveless : (α : Option ℕ) → is_empty_move (Option.map (letter_by new) α) ≡ is_empty_move α
  unfolding is_empty_move
  moveless none = refl
  moveless (some l) = refl

  pub empty-relettered : (l : List Arc) → empty_with f n (map (relettered_arc new) l) ≡ empty_with f n l
  unfolding flat_map
  empty-relettered [] = refl
  empty-relettered (x ∷ l) = rw (moveless x.letter, same x, empty-relettered l)

-- a joint arc has the operations of both
pub joint_ops : (n k : ℕ) (x y : Arc) → length (arc_both n k x y).ops ≡ length x.ops + length y.ops
joint_ops n k x y = length-append x.ops (map (moved_op k) y.ops) ∙ ap (λ (q : ℕ). length x.ops + q) (length-map y.ops (moved_op k))
