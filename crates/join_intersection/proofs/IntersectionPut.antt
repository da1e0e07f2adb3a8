-- IntersectionPut: letters put into an intersection of files by the first's numbers make it the intersection over these letters. Arcs are
-- matched by the first's numbers exactly where they are by the new ones: where their letters are the same.
use mathlib.Core.Path.{◌≡◌, ◌∙◌, ap, ap₂, refl, sym}
use mathlib.Core.Logic.{inl, inr}
use mathlib.Core.Bool.{Bool, false, true}
use mathlib.Core.List.{List, Memᴰ, [], ◌∷◌, ◌++◌, append-nil, flat_map, map}
use mathlib.Core.Option
use mathlib.Core.Option.{Option, none, some}
use Prim.Native.Nat.{ℕ, ◌+◌, ◌-◌, ◌<◌, max}
use native.Mathlib.Omega.{arith}
use lib.Dec.{eqb}
use lib.ListN.{drop, get_elem?, length, take}
use lib.Seq.{drop-length, take-length}
use Rattle.automata.specs.Automaton.{Arc, Automaton, letters, states}
use Rattle.automata.specs.Counting.{Apart}
use Rattle.automata.specs.Joins.{alike, arc_both, arc_left, arc_right, both_arcs, intersection, is_empty_move, left_arcs, right_arcs}
use Rattle.automata.specs.Letters.{keys}
use Rattle.automata.specs.Lists.{Each, count_from, keep, same_letter}
use Rattle.automata.specs.Words.{places}
use Rattle.automata.proofs.Laws.{Bool-ext, each-mem, eqb-iff, map-append, mem_each, same-many}
use Rattle.relettering.specs.Relettering.{letter_by, relettered, relettered_arc, with_letters}
use Rattle.relettering.proofs.Laws.{first-inside, joined-apart, new-inside, new-place, second-inside}
use Rattle.file_fields.specs.declared.Counts.{Counts}
use Rattle.format.specs.Decoding.{automaton_of}
use Rattle.file_laws.proofs.Laws.{valid-well_formed}
use Rattle.file_pair.specs.Lettered.{OverBoth, automaton_over}
use Rattle.file_pair.specs.Pair.{letters_of}
use Rattle.join_parts.specs.OwnNumbers.{Others, by_first, letters_put}
use Rattle.join_product_count.specs.ProductArcs.{Matchable, empty_with, joint_with, numbers_by}
use Rattle.join_product_count.proofs.Laws.{SameAt, empty-relettered, joint_group, left-group, number_same, right-group, same_number}

-- ---- lists
-- a list that is kept or not, with something made of each
kept : {A B : Type 0} (f : A → B) (t : Bool) (l : List A) → map f (keep t l) ≡ keep t (map f l)
unfolding keep
kept f true l = refl
kept f false l = refl

-- what makes one list of another makes one thing of each
mapped_same : {A B : Type 0} (f g : A → B) (l : List A) → map f l ≡ map g l → Each (λ (z : A). f z ≡ g z) l
mapped_same f g [] e = tt
mapped_same f g (z ∷ l) e = let i : f z ≡ g z = cc in let r : map f l ≡ map g l = cc in (i, mapped_same f g l r)

-- ---- arcs, matched by `new` as by `one` and `two`
module _ (new one two : List ℕ) where
  -- two arcs are matched by the one exactly where they are by the other
  abbrev Matched : Arc → Arc → Type 0
  Matched x y = alike x.letter (Option.map (letter_by new) y.letter) ≡ alike (Option.map (letter_by one) x.letter) (Option.map (letter_by two) y.letter)

  -- the joint arcs of one arc, and of all
  joint_put : (n k : ℕ) (x : Arc) (l : List Arc) → Each (Matched x) l → map (relettered_arc one) (joint_with n k (map (relettered_arc new) l) x) ≡ joint_with n k (map (relettered_arc two) l) (relettered_arc one x)
  unfolding flat_map
  joint_put n k x [] h = refl
  joint_put n k x (y ∷ l) h =
      let t = alike x.letter (Option.map (letter_by new) y.letter) in
      let z = arc_both n k x y ∷ [] in
      map-append (relettered_arc one) (keep t z) (joint_with n k (map (relettered_arc new) l) x)
      ∙ ap₂ (λ (p q : List Arc). p ++ q) (kept (relettered_arc one) t z ∙ ap (λ (b : Bool). keep b (map (relettered_arc one) z)) h.0) (joint_put n k x l h.1)

  joints_put : (n k : ℕ) (r l : List Arc) → Each (λ (x : Arc). Each (Matched x) l) r
      → map (relettered_arc one) (flat_map (joint_with n k (map (relettered_arc new) l)) r) ≡ flat_map (joint_with n k (map (relettered_arc two) l)) (map (relettered_arc one) r)
  unfolding flat_map
  joints_put n k [] l h = refl
  joints_put n k (x ∷ r) l h =
      map-append (relettered_arc one) (joint_with n k (map (relettered_arc new) l) x) (flat_map (joint_with n k (map (relettered_arc new) l)) r) ∙ ap₂ (λ (p q : List Arc). p ++ q) (joint_put n k x l h.0) (joints_put n k r l h.1)

  -- empty moves have no letter
  module _ (f : Arc → ℕ → Arc) (n : ℕ) (same : (x : Arc) (i : ℕ) → relettered_arc one (f x i) ≡ f x i) where
    moves_put : (x : Arc) (l : List ℕ) → map (relettered_arc one) (map (f x) l) ≡ map (f x) l
    moves_put x [] = refl
    moves_put x (i ∷ l) = ap₂ (λ (p : Arc) (q : List Arc). p ∷ q) (same x i) (moves_put x l)

    empties_put : (l : List Arc) → map (relettered_arc one) (empty_with f n l) ≡ empty_with f n l
    unfolding flat_map
    empties_put [] = refl
    empties_put (x ∷ l) =
        let t = is_empty_move x.letter in
        let z = map (f x) (count_from 0 n) in
        map-append (relettered_arc one) (keep t z) (empty_with f n l) ∙ ap₂ (λ (p q : List Arc). p ++ q) (kept (relettered_arc one) t z ∙ ap (keep t) (moves_put x (count_from 0 n))) (empties_put l)

  -- ---- the intersection of automata whose arcs are so matched
  module _ (all : List ℕ) (x y : Automaton) (h : Each (λ (p : Arc). Each (Matched p) y.arcs) x.arcs) where
    abbrev by : Automaton
    by = with_letters new [] y

    abbrev first : Automaton
    first = with_letters one all x

    abbrev second : Automaton
    second = with_letters two all y

    -- group by group
    both-put : map (relettered_arc one) (both_arcs x by) ≡ both_arcs first second
    unfolding with_letters
    both-put =
        let n = states y in
        let k = x.registers - 1 in
        ap (map (relettered_arc one)) (joint_group x y new [] refl refl) ∙ joints_put n k x.arcs y.arcs h ∙ sym (joint_group first y two all refl refl)

    left-put : map (relettered_arc one) (left_arcs x by) ≡ left_arcs first second
    unfolding with_letters
    left-put =
        let n = states y in
        ap (map (relettered_arc one)) (left-group x y new [] refl) ∙ empties_put (arc_left n) n (λ p i. refl) x.arcs ∙ sym (left-group first y two all refl ∙ empty-relettered (arc_left n) n one (λ p. refl) x.arcs)

    right-put : map (relettered_arc one) (right_arcs x by) ≡ right_arcs first second
    unfolding with_letters
    right-put =
        let n = states y in
        let k = x.registers - 1 in
        ap (map (relettered_arc one)) (right-group x y new [] refl refl refl) ∙ empties_put (arc_right n k) (states x) (λ p i. refl) y.arcs ∙ sym (right-group first y two all refl refl refl)

    pub Matched-put : letters_put 0 one two all (intersection x by) ≡ intersection first second
    unfolding letters_put intersection with_letters
    Matched-put =
        let l = (intersection x by).arcs in
        let e : length l - 0 ≡ length l = omega arith in
        let arcs : map (relettered_arc one) (take (length l - 0) l) ++ map (relettered_arc two) (drop (length l - 0) l) ≡ (intersection first second).arcs
        = rw (e, take-length l, drop-length l)
        (append-nil (map (relettered_arc one) l)
        ∙ map-append (relettered_arc one) (both_arcs x by) (left_arcs x by ++ right_arcs x by)
        ∙ ap₂ (λ (p q : List Arc). p ++ q) both-put (map-append (relettered_arc one) (left_arcs x by) (right_arcs x by) ∙ ap₂ (λ (p q : List Arc). p ++ q) left-put right-put)) in
        λ i. record { alphabet = all; registers = x.registers + y.registers - 1; symbols = max x.symbols y.symbols; finals = (intersection x by).finals; arcs = arcs i }

-- ---- letters
module _ {a b : Counts} {s t others : List ℕ} (f : Matchable a b s t others) where
  abbrev x : Automaton
  x = automaton_of s

  abbrev y : Automaton
  y = automaton_of t

  -- their letters, the numbers of the second's by the first's, and the letters of both
  abbrev xs : List ℕ
  xs = x.alphabet

  abbrev ys : List ℕ
  ys = y.alphabet

  abbrev new : List ℕ
  new = numbers_by s others

  abbrev all : List ℕ
  all = letters_of s t

  apart₁ : Apart (keys xs)
  apart₁ = (valid-well_formed s a f.first).letters_apart

  apart₂ : Apart (keys ys)
  apart₂ = (valid-well_formed t b f.second).letters_apart

  module _ (l m : ℕ) (h : l < letters x) (k : m < letters y) where
    -- the first's number of a letter of the second is that of the same letter
    by_first_lem : letter_by new m ≡ l → SameAt xs ys l m
    by_first_lem = go f.letters
      where
        go : Others s t others → letter_by new m ≡ l → SameAt xs ys l m
        go (inl o) e = let i : m ≡ l = rw o.1 at e in rw i (ap (λ (z : List ℕ). get_elem? z l) o.0)
        go (inr o) e = number_same xs ys apart₁ l m h k (rw o at e)

    by_same : SameAt xs ys l m → letter_by new m ≡ l
    by_same = go f.letters
      where
        go : Others s t others → SameAt xs ys l m → letter_by new m ≡ l
        go (inl o) e =
            let n : m < letters x = omega (arith, same-many x y o.0) in
            rw o.1 (sym (same_number xs xs apart₁ m m n n refl) ∙ same_number xs xs apart₁ l m h n (e ∙ ap (λ (r : List ℕ). get_elem? r m) (sym o.0)))
        go (inr o) e = rw o (same_number xs ys apart₁ l m h k e)

    -- and two letters have one number in the joined list exactly where they are the same
    both-same : letter_by (places all xs) l ≡ letter_by (places all ys) m → SameAt xs ys l m
    both-same e =
        sym (new-place xs all (first-inside xs ys) l h) ∙ ap (get_elem? (keys all)) e ∙ new-place ys all (second-inside xs ys) m k

    same-both : SameAt xs ys l m → letter_by (places all xs) l ≡ letter_by (places all ys) m
    same-both e =
        let inside = second-inside xs ys in
        same_number all xs (joined-apart xs ys apart₁ apart₂) (letter_by (places all ys) m) l (new-inside ys all inside m k) h
        (new-place ys all inside m k ∙ sym e)

    -- so the tests of the numbers agree
    same_tests : eqb l (letter_by new m) ≡ eqb (letter_by (places all xs) l) (letter_by (places all ys) m)
    same_tests =
        let p = eqb-iff l (letter_by new m) in
        let q = eqb-iff (letter_by (places all xs) l) (letter_by (places all ys) m) in
        Bool-ext _ _ (λ r. q.1 (same-both (by_first_lem (sym (p.0 r))))) (λ r. p.1 (sym (by_same (both-same (q.0 r)))))

  -- ---- arcs
  -- letters and empty moves are matched by the first's numbers exactly where they are by those in the joined list
  tested : (α β : Option ℕ) → ((l : ℕ) → α ≡ some l → l < letters x) → ((m : ℕ) → β ≡ some m → m < letters y) → alike α (Option.map (letter_by new) β) ≡ alike (Option.map (letter_by (places all xs)) α) (Option.map (letter_by (places all ys)) β)
  unfolding alike same_letter
  tested none β h k = refl
  tested (some l) none h k = refl
  tested (some l) (some m) h k = same_tests l m (h l refl) (k m refl)

  module _ {one two over : List ℕ} (v : OverBoth a b s t one two over) where
    -- whatever numbers make the same automata of them as the joined list does
    same-arcs : (given : List ℕ) (own : Automaton) (z : Arc) → with_letters given over own ≡ relettered all own → Memᴰ z own.arcs → Option.map (letter_by given) z.letter ≡ Option.map (letter_by (places all own.alphabet)) z.letter
    unfolding with_letters
    same-arcs given own z e m =
        let g = relettered_arc given in
        let h = relettered_arc (places all own.alphabet) in
        ap (λ (w : Arc). w.letter) (each-mem (λ (w : Arc). g w ≡ h w) (mapped_same g h own.arcs (ap (λ (w : Automaton). w.arcs) e)) m)

    all-matched : Each (λ (z : Arc). Each (Matched new one two z) y.arcs) x.arcs
    all-matched = mem_each x.arcs λ z i. mem_each y.arcs λ w j.
        tested z.letter w.letter ((valid-well_formed s a f.first).lettered z i) ((valid-well_formed t b f.second).lettered w j) ∙ sym (ap₂ alike (same-arcs one x z v.first i) (same-arcs two y w v.second j))

-- THE LAW of letters put in: by the numbers that the automata have over these letters, it is the intersection over them
pub intersection-put : {a b : Counts} {s t others one two all : List ℕ} → Others s t others → OverBoth a b s t one two all
    → letters_put 0 one two all (intersection (automaton_of s) (by_first s others t)) ≡ intersection (automaton_over one all s) (automaton_over two all t)
intersection-put {s = s} {t = t} {others = others} {one = one} {two = two} {all = all} lent v =
    Matched-put (numbers_by s others) one two all (automaton_of s) (automaton_of t) (all-matched (record { first = v.lettered.first; second = v.lettered.second; letters = lent }) v)

-- it lists the letters of the first
pub intersection-lists : (x y : Automaton) → (intersection x y).alphabet ≡ x.alphabet
unfolding intersection
intersection-lists x y = refl
