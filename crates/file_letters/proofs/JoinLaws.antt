-- JoinLaws: a byte inserted as `insert` does, place after place; and the joined list with one more byte of the second.
use mathlib.Core.Path.{◌≡◌, ◌∙◌, ap, refl, sym}
use mathlib.Core.Bool.{Bool, cond, not, false, true}
use mathlib.Core.List.{List, [], ◌∷◌, ◌++◌, append_assoc}
use Prim.Native.Nat.{ℕ, ◌+◌, ◌-◌, ◌<◌, ◌≤◌, suc, zero}
use native.Mathlib.Numerals.{add-one}
use native.Mathlib.Omega.{arith}
use borrow.Author.Tests.{le-ltb, lt-ltb}
use lib.ListN.{drop, get_or, length, length-append, set, take}
use lib.Seq.{drop-cons, drop-length, drop-set-lt, take_all, take_at, take-suc, take-suc-set}
use Rattle.std.specs.List.{count_by}
use Rattle.std.proofs.lemmas.List.Recursion.{is_count_by}
use Rattle.automata.specs.Letters.{same_key}
use Rattle.automata.specs.Lists.{any}
use Rattle.relettering.specs.Relettering.{inserted, joined_letters}
use Rattle.relettering.proofs.Laws.{inserted-long, joined-grows, joined-long}

-- ---- inserting
-- the letters from place i to before n, the first of them in front
part-next : (l : List ℕ) (n i : ℕ) → i < n → n ≤ length l → take (n - i) (drop i l) ≡ get_or l i 0 ∷ take (n - (i + 1)) (drop (i + 1) l)
part-next l n i h k =
    let e : n - i ≡ suc (n - (i + 1)) = omega arith in
    rw (e, add-one i, drop-cons l i 0 (omega arith)) refl

-- what stands before place i, and c inserted behind it
module _ (l : List ℕ) (n i c : ℕ) where
  abbrev pub inserted_from : List ℕ
  inserted_from = take i l ++ inserted c (take (n - i) (drop i l))

-- a letter that is above c gives way
pub insert_below : (l : List ℕ) (n i c : ℕ) → i < n → n ≤ length l → c < get_or l i 0 → inserted_from l n i c ≡ inserted_from (set l i c) n (i + 1) (get_or l i 0)
unfolding inserted
insert_below l n i c h k less =
    let e : take (i + 1) (set l i c) ≡ take i l ++ (c ∷ []) = rw add-one (take-suc-set l i c (omega arith)) in
    rw (part-next l n i h k, lt-ltb c (get_or l i 0) less, drop-set-lt (i + 1) l i c (omega arith), e)
    (sym (append_assoc (take i l) (c ∷ []) (inserted (get_or l i 0) (take (n - (i + 1)) (drop (i + 1) l)))))

-- one that is not stays
pub insert_above : (l : List ℕ) (n i c : ℕ) → i < n → n ≤ length l → get_or l i 0 ≤ c → inserted_from l n i c ≡ inserted_from l n (i + 1) c
unfolding inserted
insert_above l n i c h k less =
    let e : take (i + 1) l ≡ take i l ++ (get_or l i 0 ∷ []) = rw add-one (take-suc l i 0 (omega arith)) in
    rw (part-next l n i h k, le-ltb c (get_or l i 0) less, e)
    (sym (append_assoc (take i l) (get_or l i 0 ∷ []) (inserted c (take (n - (i + 1)) (drop (i + 1) l)))))

-- behind all of them it comes last
pub insert_last : (items rest : List ℕ) (n i c : ℕ) → length items ≡ n → i ≡ n → 0 < length rest → inserted_from items (length items) i c ≡ take (n + 1) (set (items ++ rest) n c)
unfolding inserted
insert_last items rest n i c e f h =
    let z : n - n ≡ 0 = omega arith in
    rw (e, f, z, take_all n items (omega (arith, e)))
    (sym (rw add-one (take-suc-set (items ++ rest) n c (omega (arith, e, length-append items rest)) ∙ ap (λ (t : List ℕ). t ++ (c ∷ [])) (take_at items rest n e))))

-- ---- joining, from the end of the second list to its front: the byte before place i is taken
module _ (a b : List ℕ) (i : ℕ) (some : 0 < i) (h : i ≤ length b) where
  taken_next : drop (i - 1) b ≡ get_or b (i - 1) 0 ∷ drop i b
  taken_next = let e : suc (i - 1) ≡ i = omega arith in drop-cons b (i - 1) 0 (omega arith) ∙ ap (λ (k : ℕ). get_or b (i - 1) 0 ∷ drop k b) e

  -- it stands for a letter of the first list, or for none of them
  pub joined-old : any (same_key (get_or b (i - 1) 0)) a ≡ true → joined_letters a (drop (i - 1) b) ≡ joined_letters a (drop i b)
  unfolding joined_letters
  joined-old p = rw (taken_next, p)

  pub joined-new : any (same_key (get_or b (i - 1) 0)) a ≡ false → joined_letters a (drop (i - 1) b) ≡ inserted (get_or b (i - 1) 0) (joined_letters a (drop i b))
  unfolding joined_letters
  joined-new p = rw (taken_next, p)

  pub joined-more : any (same_key (get_or b (i - 1) 0)) a ≡ false → length (joined_letters a (drop (i - 1) b)) ≡ length (joined_letters a (drop i b)) + 1
  joined-more p = omega (arith, ap length (joined-new p), inserted-long (get_or b (i - 1) 0) (joined_letters a (drop i b)))

-- behind the last byte nothing is added
pub joined-none : (a b : List ℕ) → joined_letters a (drop (length b) b) ≡ a
unfolding joined_letters
joined-none a b = rw (drop-length b)

-- a part of the second list adds no more letters than all of it
pub joined-part : (a b : List ℕ) (i : ℕ) → length (joined_letters a (drop i b)) ≤ length (joined_letters a b)
joined-part a b zero = omega arith
joined-part a [] (suc i) = omega arith
joined-part a (x ∷ b) (suc i) = omega (arith, joined-part a b i, joined-grows a x b)

-- there are as many letters as the first list has and as the second has that are none of these
pub joined-count : (a b : List ℕ) → length a + count_by (λ (byte : ℕ). not (any (same_key byte) a)) b ≡ length (joined_letters a b)
unfolding joined_letters
joined-count a b = omega (arith, is_count_by (λ (l : List ℕ). length (joined_letters a l) - length a) (λ (byte : ℕ). not (any (same_key byte) a)) (omega arith) (λ x l. go (any (same_key x) a) x l) b, (joined-long a b).0)
  where
    go : (t : Bool) (x : ℕ) (l : List ℕ) → length (cond t (joined_letters a l) (inserted x (joined_letters a l))) - length a ≡ cond (not t) (1 + (length (joined_letters a l) - length a)) (length (joined_letters a l) - length a)
    go true x l = refl
    go false x l = omega (arith, inserted-long x (joined_letters a l), (joined-long a l).0)
