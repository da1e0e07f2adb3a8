-- Tables: laws of lists of tests, as Live has a set, and of the count of their members.
use mathlib.Core.Path.{◌≡◌, refl, sym, ap, ap₂, ◌∙◌}
use mathlib.Core.Bool.{Bool, true, false}
use mathlib.Core.List.{List, [], ◌∷◌, ◌++◌}
use Prim.Native.Nat.{ℕ, zero, suc, ◌+◌, ◌<◌, suc-le-suc, zero-le}
use native.Mathlib.Nat.{zero-add, suc-add}
use native.Mathlib.Omega.{arith}
use lib.Dec.{eqb}
use lib.ListN.{length}
use Rattle.automata.specs.Live.{table, in?, count}

pub table-ext : (k : ℕ) {f g : ℕ → Bool} → ((j : ℕ) → j < k → f j ≡ g j) → table k f ≡ table k g
unfolding table
table-ext zero h = refl
table-ext (suc k) h = ap₂ (λ (x : Bool) (l : List Bool). x ∷ l) (h 0 (suc-le-suc zero-le)) (table-ext k (λ j l. h (suc j) (suc-le-suc l)))

-- a list of tests is the table of its own
pub table_of : (S : List Bool) → table (length S) (in? S) ≡ S
unfolding table
table_of [] = refl
table_of (x ∷ S) = ap (λ (l : List Bool). x ∷ l) (table_of S)

pub table-append : (n m : ℕ) (f : ℕ → Bool) → table (n + m) f ≡ table n f ++ table m (λ i. f (n + i))
unfolding table
table-append zero m f = rw (zero-add m) (table-ext m (λ j h. ap f (sym (zero-add j))))
table-append (suc n) m f =
    rw (suc-add n m)
    (ap (λ (l : List Bool). f 0 ∷ l) (table-append n m (λ i. f (suc i)) ∙ ap (λ (l : List Bool). table n (λ i. f (suc i)) ++ l) (table-ext m (λ j h. ap f (sym (suc-add n j))))))

-- ---- count

pub count-append : (a b : List Bool) → count (a ++ b) ≡ count a + count b
unfolding count
count-append [] b = omega arith
count-append (true ∷ a) b = omega (arith, count-append a b)
count-append (false ∷ a) b = count-append a b

pub count_none : (k : ℕ) (f : ℕ → Bool) → ((j : ℕ) → f j ≡ false) → count (table k f) ≡ 0
unfolding table count
count_none zero f h = refl
count_none (suc k) f h = rw (h 0) (count_none k (λ i. f (suc i)) (λ j. h (suc j)))

pub count-first : (d : ℕ) (S : List Bool) → d < 2 → count (eqb d 1 ∷ S) ≡ d + count S
unfolding count
count-first zero S h = omega arith
count-first (suc zero) S h = omega arith
count-first (suc (suc d)) S h = absurd (omega arith)
