-- LetterLaws: which bytes stand for one letter.
use mathlib.Core.Path.{◌∙◌, ◌≡◌, refl, sym}
use mathlib.Core.Logic.{◌↔◌, ◌⊎◌, inl, inr}
use mathlib.Core.Bool.{Bool, ◌&&◌, cond, false, not, true}
use mathlib.Core.List.Memᴰ
use mathlib.Core.List.{List, Memᴰ, [], ◌∷◌}
use Prim.Native.Nat.{ℕ, ◌+◌, ◌<◌, ◌≤◌}
use native.Mathlib.Omega.{arith}
use borrow.Author.Tests.{leb-false, leb-true}
use lib.Dec.{T, leb}
use Rattle.automata.specs.Counting.{Apart}
use Rattle.automata.specs.Letters.{OneLetter, SmallOf, key, keys, same_key, unlike}
use Rattle.automata.specs.Lists.{any}
use Rattle.automata.proofs.ListLaws.{and-iff, any-iff, eqb-iff, not_iff}

-- ---- the key of a byte
-- of a capital the key is its small letter, of any other byte the byte
abbrev Cases : ℕ → Type 0
Cases x = ((0x41 ≤ x) × (x ≤ 0x5A) × (key x ≡ x + 0x20)) ⊎ (((x < 0x41) ⊎ (0x5A < x)) × (key x ≡ x))

key-is : (x : ℕ) → Cases x
unfolding key
key-is x = go (leb 0x41 x) refl (leb x 0x5A) refl
  where
    go : (a : Bool) → leb 0x41 x ≡ a → (b : Bool) → leb x 0x5A ≡ b
        → ((0x41 ≤ x) × (x ≤ 0x5A) × (cond (a && b) (x + 0x20) x ≡ x + 0x20)) ⊎ (((x < 0x41) ⊎ (0x5A < x)) × (cond (a && b) (x + 0x20) x ≡ x))
    go true p true q = inl (leb-true 0x41 x p, leb-true x 0x5A q, refl)
    go true p false q = inr (inr (leb-false x 0x5A q), refl)
    go false p b q = inr (inl (leb-false 0x41 x p), refl)

-- a small letter has the key of its capital
small-key : (x y : ℕ) → SmallOf x y → Cases x → Cases y → key x ≡ key y
small-key x y s (inr (inl p, e)) b = absurd (omega (arith, s, p))
small-key x y s (inr (inr p, e)) b = absurd (omega (arith, s, p))
small-key x y s (inl p) (inl q) = absurd (omega (arith, s, q))
small-key x y s (inl p) (inr q) = omega (arith, s.2, p.2, q.1)

-- the keys are the same just if the bytes stand for one letter
pub key-iff : (x y : ℕ) → (key x ≡ key y) ↔ OneLetter x y
key-iff x y = (to (key-is x) (key-is y), from)
  where
    to : Cases x → Cases y → key x ≡ key y → OneLetter x y
    to (inl p) (inl q) e = inl (omega (arith, e, p.2, q.2))
    to (inl p) (inr q) e = inr (inl (p.0, p.1, omega (arith, e, p.2, q.1)))
    to (inr p) (inl q) e = inr (inr (q.0, q.1, omega (arith, e, p.1, q.2)))
    to (inr p) (inr q) e = inl (omega (arith, e, p.1, q.1))

    from : OneLetter x y → key x ≡ key y
    from (inl e) = rw e
    from (inr (inl s)) = small-key x y s (key-is x) (key-is y)
    from (inr (inr s)) = sym (small-key y x s (key-is y) (key-is x))

-- of two bytes for one letter the lower is a capital, the higher a small letter
pub capital_and_small : (x y : ℕ) → x < y → key x ≡ key y → SmallOf x y
capital_and_small x y h e = go ((key-iff x y).0 e)
  where
    go : OneLetter x y → SmallOf x y
    go (inl same) = absurd (omega arith)
    go (inr (inl s)) = s
    go (inr (inr s)) = absurd (omega (arith, h, s))

-- and the higher is their key
pub higher_is_key : (x y : ℕ) → x < y → key x ≡ key y → y ≡ key x
higher_is_key x y h e = go (key-is x) (key-is y)
  where
    go : Cases x → Cases y → y ≡ key x
    go (inl p) (inl q) = absurd (omega (arith, h, e, p.2, q.2))
    go (inr p) (inl q) = absurd (omega (arith, h, e, p.1, q.2))
    go p (inr q) = sym (e ∙ q.1)

-- the key of a key is itself
pub key-key : (x : ℕ) → key (key x) ≡ key x
key-key x = go (key-is x) (key-is (key x))
  where
    go : Cases x → Cases (key x) → key (key x) ≡ key x
    go p (inr q) = q.1
    go (inl p) (inl q) = absurd (omega (arith, p, q.0, q.1))
    go (inr (inl p, e)) (inl q) = absurd (omega (arith, p, e, q.0, q.1))
    go (inr (inr p, e)) (inl q) = absurd (omega (arith, p, e, q.0, q.1))

-- ---- a list of letters
-- one of them is the same letter as x
pub listed-iff : (x : ℕ) (l : List ℕ) → T (any (same_key x) l) ↔ Memᴰ (key x) (keys l)
listed-iff x l =
    let a = any-iff (same_key x) l in (
      λ t. let p = a.0 t in rw ((eqb-iff (key x) (key p.0)).0 p.2) (Memᴰ.map key p.1),
      λ m. let p = Memᴰ.of_map key l m in a.1 (p.0, p.1, (eqb-iff (key x) (key p.0)).1 (sym p.2)),
    )

-- no two of them are one letter just if their keys are apart
pub unlike-iff : (l : List ℕ) → T (unlike l) ↔ Apart (keys l)
unfolding unlike
unlike-iff [] = (λ _. tt, λ _. tt)
unlike-iff (x ∷ l) =
    let e = and-iff (not (any (same_key x) l)) (unlike l) in
    let n = not_iff (any (same_key x) l) in
    let i = listed-iff x l in
    let r = unlike-iff l in
    (λ t. (λ m. n.0 (e.0 t).0 (i.1 m), r.0 (e.0 t).1), λ h. e.1 (n.1 (λ t. h.0 (i.0 t)), r.1 h.1))
