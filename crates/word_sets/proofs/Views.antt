-- Views: a set of four words as the list of tests that Live calls a set. These laws are what callers cite.
use mathlib.Core.Path.{◌≡◌, refl, sym, ap, ap₂, subst, ◌∙◌}
use mathlib.Core.Logic.{◌↔◌, inl, inr, ⊎_elim}
use mathlib.Core.Bool.{Bool, false, ◌||◌}
use mathlib.Core.List.{List, [], ◌∷◌}
use Prim.Native.Nat.{ℕ, zero, suc, ◌+◌, ◌-◌, ◌*◌, ◌/◌, ◌%◌, ◌^◌, ◌≤◌, ◌<◌}
use native.Mathlib.Nat.{add-zero}
use native.Mathlib.Omega.{arith}
use lib.Dec.{T}
use lib.ListN.{length, get_or}
use lib.Seq.{ext_get_or}
use lib.Count.{ones, ones_step}
use Rattle.automata.specs.Live.{table, in?, count, meets}
use Rattle.automata.proofs.Laws.{Bool-ext, in_table, length-table, meets-iff, or_iff}
use Rattle.word_sets.specs.Sets.{bit, in_set, view, Within}
use Rattle.word_sets.proofs.Tables.{table-ext, table_of, table-append, count-append, count_none, count-first}
use Rattle.word_sets.proofs.Bits.{bit-first, bit-suc, same_bits}
use Rattle.word_sets.proofs.SetLaws.{Four, Four-words, place}

pub length-view : (n : ℕ) (s : List ℕ) → length (view n s) ≡ n
unfolding view
length-view n s = length-table n (in_set s)

pub In-view : (n : ℕ) (s : List ℕ) (j : ℕ) → T (in? (view n s) j) ↔ ((j < n) × T (in_set s j))
unfolding view
In-view n s j = in_table n (in_set s) j

-- the link to the definitions: four words with the members of S are S
pub view-is : (n : ℕ) (s : List ℕ) (S : List Bool) → length S ≡ n → ((j : ℕ) → j < n → T (in_set s j) ↔ T (in? S j)) → view n s ≡ S
unfolding view
view-is n s S e h = table-ext n (λ j l. Bool-ext (in_set s j) (in? S j) (h j l).0 (h j l).1) ∙ ap (λ (k : ℕ). table k (in? S)) (sym e) ∙ table_of S

-- two sets with the same members are the same words
pub set-ext : {s t : List ℕ} → Four s → Four t → ((j : ℕ) → in_set s j ≡ in_set t j) → s ≡ t
set-ext {s} {t} fs ft h =
    ext_get_or 0 s t (fs.long ∙ sym ft.long)
    (λ q l. same_bits 64 (get_or s q 0) (get_or t q 0) (fs.fits q) (ft.fits q) (λ i m. sym (place s q i m) ∙ h (64 * q + i) ∙ place t q i m))

-- `meets` answers what the definition does, for a set of numbers below n
pub meets-view : {n : ℕ} (a b : List ℕ) {r : Bool} → Within n a → T r ↔ ((j : ℕ) × T (in_set a j) × T (in_set b j)) → r ≡ meets (view n a) (view n b)
meets-view {n} a b {r} w h =
    Bool-ext r (meets (view n a) (view n b))
    (λ t. let p = h.0 t in (meets-iff (view n a) (view n b)).1 (p.0, (In-view n a p.0).1 (w p.0 p.1, p.1), (In-view n b p.0).1 (w p.0 p.1, p.2)))
    (λ t. let p = (meets-iff (view n a) (view n b)).0 t in h.1 (p.0, ((In-view n a p.0).0 p.1).1, ((In-view n b p.0).0 p.2).1))

-- all members of a are in b just if their union is b
pub inside-set : (a : List ℕ) {b u : List ℕ} (r : Bool) → Four u → Four b → ((j : ℕ) → in_set u j ≡ (in_set a j || in_set b j)) → T r ↔ (u ≡ b) → T r ↔ ((j : ℕ) → T (in_set a j) → T (in_set b j))
inside-set a {b} {u} r fu fb is same = (
  λ t j x. subst T (ap (λ (s : List ℕ). in_set s j) (same.0 t)) (subst T (sym (is j)) ((or_iff (in_set a j) (in_set b j)).1 (inl x))),
  λ f. same.1 (set-ext fu fb (λ j. is j ∙ Bool-ext (in_set a j || in_set b j) (in_set b j) (λ t. ⊎_elim (λ x. f j x) (λ x. x) ((or_iff (in_set a j) (in_set b j)).0 t)) (λ x. (or_iff (in_set a j) (in_set b j)).1 (inr x)))),
)

-- ---- how many members

-- a set of numbers below n is counted below n
pub count-within : {m n : ℕ} (s : List ℕ) → n ≤ m → Within n s → count (view m s) ≡ count (view n s)
unfolding view
count-within {m} {n} s h w =
    let e : m ≡ n + (m - n) = omega arith in
    ap (λ (k : ℕ). count (table k (in_set s))) e ∙ ap count (table-append n (m - n) (in_set s)) ∙ count-append (table n (in_set s)) (table (m - n) (λ i. in_set s (n + i)))
    ∙ ap (λ (x : ℕ). count (table n (in_set s)) + x) (count_none (m - n) (λ i. in_set s (n + i)) (λ j. Bool-ext (in_set s (n + j)) false (λ t. absurd (omega (arith, w (n + j) t))) (λ t. absurd t)))
    ∙ add-zero (count (table n (in_set s)))

-- the digits 1 of a word of k digits
ones-count : (k x : ℕ) → x < 2 ^ k → count (table k (bit x)) ≡ ones x
unfolding table count ones
ones-count zero x h = let e : x ≡ 0 = omega arith in rw e
ones-count (suc k) x h =
    ap₂ (λ (b : Bool) (S : List Bool). count (b ∷ S)) (bit-first x) (table-ext k (λ j l. bit-suc x j))
    ∙ count-first (x % 2) (table k (bit (x / 2))) (omega arith)
    ∙ ap (λ (y : ℕ). x % 2 + y) (ones-count k (x / 2) (omega arith)) ∙ sym (ones_step x)

-- the digits 1 of all words of a list
abbrev sum_ones : List ℕ → ℕ
sum_ones [] = 0
sum_ones (x ∷ s) = ones x + sum_ones s

in_rest : (x : ℕ) (s : List ℕ) (j : ℕ) → in_set (x ∷ s) (64 + j) ≡ in_set s j
unfolding in_set
in_rest x s j = let d : (64 + j) / 64 ≡ suc (j / 64) = omega arith in let m : (64 + j) % 64 ≡ j % 64 = omega arith in rw (d, m)

count-words : (s : List ℕ) → ((i : ℕ) → get_or s i 0 < 2 ^ 64) → count (table (64 * length s) (in_set s)) ≡ sum_ones s
count-words [] h = unfold table count in refl
count-words (x ∷ s) h =
    let e : 64 * length (x ∷ s) ≡ 64 + 64 * length s = omega arith in
    ap (λ (k : ℕ). count (table k (in_set (x ∷ s)))) e ∙ ap count (table-append 64 (64 * length s) (in_set (x ∷ s)))
    ∙ count-append (table 64 (in_set (x ∷ s))) (table (64 * length s) (λ i. in_set (x ∷ s) (64 + i)))
    ∙ ap₂ (λ (a b : ℕ). a + b)
    (ap count (table-ext 64 (λ j l. first j l)) ∙ ones-count 64 x (h 0))
    (ap count (table-ext (64 * length s) (λ j l. in_rest x s j)) ∙ count-words s (λ i. h (suc i)))
  where
    first : (j : ℕ) → j < 64 → in_set (x ∷ s) j ≡ bit x j
    first j l = let e : j ≡ 64 * 0 + j = omega arith in ap (in_set (x ∷ s)) e ∙ place (x ∷ s) 0 j l

pub size-set : (s : List ℕ) → Four s → ones (get_or s 0 0) + ones (get_or s 1 0) + ones (get_or s 2 0) + ones (get_or s 3 0) ≡ count (view 256 s)
unfolding view
size-set s f = sums s f.long ∙ sym (count-words s f.fits) ∙ ap (λ (k : ℕ). count (table (64 * k) (in_set s))) f.long
  where
    sums : (s : List ℕ) → length s ≡ 4 → ones (get_or s 0 0) + ones (get_or s 1 0) + ones (get_or s 2 0) + ones (get_or s 3 0) ≡ sum_ones s
    sums s e = rw (Four-words s e) (omega arith)
