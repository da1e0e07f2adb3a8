-- Uncounted: counts of arcs: what is left to count of a list, one step of it, and the counts of a single arc and of equally long ones.
use mathlib.Core.Path.{◌≡◌, ◌∙◌, ap, refl, sym}
use mathlib.Core.Bool.{Bool, false, true, ◌||◌, or_assoc, or-false, or-true}
use mathlib.Core.List.{List, [], ◌∷◌, ◌++◌, flat_map, map}
use Prim.Native.Nat.{ℕ, suc, zero, max, ◌+◌, ◌*◌, ◌<◌, ◌≤◌}
use native.Mathlib.Decide.{dec_lt}
use native.Mathlib.Nat.{suc-mul, zero-mul}
use native.Mathlib.Omega.{arith}
use borrow.Author.Tests.{le-ltb, lt-ltb}
use lib.Dec.{ltb}
use lib.ListN.{length, length-append}
use Rattle.automata.specs.Lists.{any, count_from}
use Rattle.automata.specs.Automaton.{Arc}
use Rattle.format.specs.Encoding.{arc_bytes, arcs_bytes}
use Rattle.file_arc_writing.proofs.Laws.{arc-length}
use Rattle.file_writing.proofs.Laws.{arcs-append}
use Rattle.join_parts.specs.Joining.{many_ops}
use Rattle.join_product_count.specs.declared.Tally.{Tally}
use Rattle.join_product_count.specs.ProductArcs.{Tallied}

any_append : {A : Type 0} (t : A → Bool) (l r : List A) → any t (l ++ r) ≡ (any t l || any t r)
unfolding any
any_append t [] r = refl
any_append t (x ∷ l) r = rw (any_append t l r) (sym (or_assoc (t x) (any t l) (any t r)))

size-append : (l r : List Arc) → length (arcs_bytes (l ++ r)) ≡ length (arcs_bytes l) + length (arcs_bytes r)
size-append l r = ap length (arcs-append l r) ∙ length-append (arcs_bytes l) (arcs_bytes r)

-- of the count of `all`, that of `rest` is left
pub record Uncounted (t : Tally) (rest all : List Arc) : Type 0 where
  pub arcs : t.arcs + length rest ≡ length all
  pub size : t.size + length (arcs_bytes rest) ≡ length (arcs_bytes all)
  pub many : (t.many || any many_ops rest) ≡ any many_ops all

pub Uncounted-all : (all : List Arc) → Uncounted (record { arcs = 0; size = 0; many = false }) all all
Uncounted-all all = record { arcs = omega arith; size = omega arith; many = refl }

abbrev pub both : Tally → Tally → Tally
both t u = record { arcs = t.arcs + u.arcs; size = t.size + u.size; many = t.many || u.many }

-- a part of it is counted
pub Uncounted-less : {t u : Tally} {all : List Arc} (part rest : List Arc) → Tallied u part → Uncounted t (part ++ rest) all → Uncounted (both t u) rest all
Uncounted-less {t} {u} part rest p c = record {
  arcs = omega (arith, p.arcs, c.arcs, length-append part rest);
  size = omega (arith, p.size, c.size, size-append part rest);
  many = ap (λ (b : Bool). t.many || b || any many_ops rest) p.many ∙ or_assoc t.many (any many_ops part) (any many_ops rest) ∙ ap (λ (b : Bool). t.many || b) (sym (any_append many_ops part rest)) ∙ c.many;
}

-- all is counted
pub Uncounted-none : {t : Tally} {all : List Arc} → Uncounted t [] all → Tallied t all
unfolding arcs_bytes any
Uncounted-none {t} c = record { arcs = omega (arith, c.arcs); size = omega (arith, c.size); many = sym (or-false t.many) ∙ c.many }

-- two lists
pub Tallied-append : {t u : Tally} (l r : List Arc) → Tallied t l → Tallied u r → Tallied (both t u) (l ++ r)
Tallied-append l r p q = record {
  arcs = omega (arith, p.arcs, q.arcs, length-append l r);
  size = omega (arith, p.size, q.size, size-append l r);
  many = rw (p.many, q.many) (sym (any_append many_ops l r));
}

-- arcs that are made of each of a list in two ways: one behind the other of each, or those of the one way behind those of the other
module _ (f g : Arc → List Arc) where
  abbrev each_both : List Arc → List Arc
  each_both = flat_map (λ (x : Arc). f x ++ g x)

  or_swap : (a b c d : Bool) → ((a || b) || (c || d)) ≡ ((a || c) || (b || d))
  or_swap true b c d = refl
  or_swap false b true d = or-true b
  or_swap false true false d = refl
  or_swap false false false d = refl

  apart-arcs : (l : List Arc) → length (each_both l) ≡ length (flat_map f l ++ flat_map g l)
  unfolding flat_map
  apart-arcs [] = refl
  apart-arcs (x ∷ l) = simp length-append (omega (arith, simp length-append at (apart-arcs l)))

  apart-size : (l : List Arc) → length (arcs_bytes (each_both l)) ≡ length (arcs_bytes (flat_map f l ++ flat_map g l))
  unfolding flat_map
  apart-size [] = refl
  apart-size (x ∷ l) = simp size-append (omega (arith, simp size-append at (apart-size l)))

  apart-many : (l : List Arc) → any many_ops (each_both l) ≡ any many_ops (flat_map f l ++ flat_map g l)
  unfolding flat_map
  apart-many [] = refl
  apart-many (x ∷ l) =
      let p = any many_ops (f x) in
      let q = any many_ops (g x) in
      simp (any_append many_ops, apart-many l) (or_swap p q (any many_ops (flat_map f l)) (any many_ops (flat_map g l)))

  pub Tallied-apart : {t : Tally} (l : List Arc) → Tallied t (each_both l) → Tallied t (flat_map f l ++ flat_map g l)
  Tallied-apart l p = record { arcs = p.arcs ∙ apart-arcs l; size = p.size ∙ apart-size l; many = p.many ∙ apart-many l }

-- ---- counts of few arcs
pub one-tallied : (x : Arc) (p : ℕ) → length x.ops ≡ p → Tallied (record { arcs = 1; size = 4 + 2 * p; many = ltb 8 p }) (x ∷ [])
unfolding arcs_bytes any
one-tallied x p e = record {
  arcs = refl;
  size = omega (arith, length-append (arc_bytes x) [], arc-length x);
  many = rw e (sym (or-false (ltb 8 p)));
}

-- so many arcs with so many operations together, and so many at most
abbrev pub counted : (arcs ops most : ℕ) → Tally
counted arcs ops most = record { arcs = arcs; size = 4 * arcs + 2 * ops; many = ltb 8 most }

many-larger : (m p : ℕ) → ltb 8 (max m p) ≡ (ltb 8 m || ltb 8 p)
many-larger m p = go (dec_lt 8 m) (dec_lt 8 p)
  where
    go : Dec (8 < m) → Dec (8 < p) → ltb 8 (max m p) ≡ (ltb 8 m || ltb 8 p)
    go (yes h) q = rw (lt-ltb 8 m h, lt-ltb 8 (max m p) (omega arith))
    go (no h) (yes k) = rw (le-ltb 8 m (omega (arith, h)), lt-ltb 8 p k, lt-ltb 8 (max m p) (omega arith))
    go (no h) (no k) = rw (le-ltb 8 m (omega (arith, h)), le-ltb 8 p (omega (arith, k)), le-ltb 8 (max m p) (omega (arith, h, k)))

-- one of them is counted
pub Uncounted-one : (arcs ops most : ℕ) (x : Arc) (p : ℕ) (rest : List Arc) {all : List Arc} → length x.ops ≡ p → Uncounted (counted arcs ops most) ((x ∷ []) ++ rest) all → Uncounted (counted (arcs + 1) (ops + p) (max most p)) rest all
Uncounted-one arcs ops most x p rest e c =
    let u = Uncounted-less (x ∷ []) rest (one-tallied x p e) c in
    record { arcs = u.arcs; size = omega (arith, u.size); many = rw (many-larger most p) u.many }

-- as many as states, each with p operations
pub all-tallied : (g : ℕ → Arc) (p : ℕ) → ((i : ℕ) → length (g i).ops ≡ p) → p ≤ 8 → (j n : ℕ) → Tallied (record { arcs = n; size = n * (4 + 2 * p); many = false }) (map g (count_from j n))
unfolding arcs_bytes any count_from
all-tallied g p e h j zero = record { arcs = refl; size = zero-mul (4 + 2 * p); many = refl }
all-tallied g p e h j (suc n) =
    let rest = all-tallied g p e h (suc j) n in
    record {
      arcs = ap suc rest.arcs;
      size = omega (arith, suc-mul n (4 + 2 * p), rest.size, length-append (arc_bytes (g j)) (arcs_bytes (map g (count_from (suc j) n))), arc-length (g j), e j);
      many = rw (e j, le-ltb 8 p h) rest.many;
    }
