-- ExampleLaws: every row of document 01's table holds. One test is computed over the rows; one law turns it into what they say.
-- The laws are stated at limits L and P that are variables, so that no walk of an unknown automaton is ever computed.
use mathlib.Core.Path.{◌≡◌, ap, subst}
use mathlib.Core.Logic.{⊎_elim}
use Prim.Native.Nat.{◌<◌, ◌≤◌, ℕ}
use lib.Dec.{T, eqb, eqb→eq, leb, leb→le, ltb, ltb→lt}
use lib.ListN.{length}
use mathlib.Core.Bool.{Bool, ◌&&◌, false, not, true}
use mathlib.Core.List.Memᴰ
use mathlib.Core.List.{List, Memᴰ, [], ◌∷◌}
use mathlib.Core.Option.{Option, none, some}
use Rattle.automata.specs.Automaton.{Arc, Automaton, Reachable, letters}
use Rattle.automata.specs.Counting.{Apart, Exactly}
use Rattle.automata.specs.Examples.{Holds, Row, accepts, compare_to, counts_to, reaches, rejects, rows, unfolds_to}
use Rattle.automata.specs.Exploration.{has}
use Rattle.automata.specs.Letters.{key, keys, unlike}
use Rattle.automata.specs.Lengths.{AcceptedOf, RejectedOf, accepted_many, rejected_many}
use Rattle.automata.specs.Lists.{any, same_by}
use Rattle.automata.specs.Pairs.{Right, Verdict, different, pairs, same, verdict}
use Rattle.automata.specs.Unfolding.{accepted_bytes, configurations, plain_arcs}
use Rattle.automata.proofs.LetterLaws.{unlike-iff}
use Rattle.automata.proofs.LengthLaws.{accepted-counts, rejected-counts}
use Rattle.automata.proofs.ListLaws.{and-iff, any-iff, eqb-iff, not_iff, same_by-iff}
use Rattle.automata.proofs.MembershipLaws.{accepted_bytes-iff}
use Rattle.automata.proofs.ReachLaws.{configurations-count}
use Rattle.automata.proofs.VerdictLaws.{Lettered, verdict-right}

-- the walk ends within the limit, and the test of the row passes
within : ℕ → Automaton → Bool → Bool
within L x t = unlike x.alphabet && (leb (length (configurations x L)) L && t)

-- has an arc a letter that the automaton lacks?
beyond : ℕ → Option ℕ → Bool
beyond a none = false
beyond a (some l) = not (ltb l a)

strays : Automaton → Bool
strays x = any (λ (r : Arc). beyond (letters x) r.letter) x.arcs

lettered : (x : Automaton) → T (not (strays x)) → Lettered x
unfolding strays beyond
lettered x t r k l e = go (ltb l (letters x)) (λ b. (not_iff (strays x)).0 t ((any-iff (λ (r : Arc). beyond (letters x) r.letter) x.arcs).1 (r, k, rw e b))) (ltb→lt l (letters x))
  where
    go : (b : Bool) → ¬ T (not b) → (T b → l < letters x) → l < letters x
    go true h f = f tt
    go false h f = absurd (h tt)

-- are two verdicts one?
same_verdict : Verdict → Verdict → Bool
same_verdict (same m) (same n) = eqb m n
same_verdict (same m) (different n k w) = false
same_verdict (different m j v) (same n) = false
same_verdict (different m j v) (different n k w) = eqb m n && (eqb j k && same_by eqb v w)

same_verdict_true : (v w : Verdict) → T (same_verdict v w) → v ≡ w
unfolding same_verdict
same_verdict_true (same m) (same n) t = ap same (eqb→eq m n t)
same_verdict_true (same m) (different n k w) t = absurd t
same_verdict_true (different m j v) (same n) t = absurd t
same_verdict_true (different m j v) (different n k w) t =
    let p = (and-iff (eqb m n) (eqb j k && same_by eqb v w)).0 t in
    let q = (and-iff (eqb j k) (same_by eqb v w)).0 p.1 in
    let r = (same_by-iff eqb eqb-iff v w).0 q.1 in
    let f = eqb→eq m n p.0 in
    let g = eqb→eq j k q.0 in
    λ i. different (f i) (g i) (r i)

-- two automata within the limits, with as many letters, compare to the verdict
compared : (L P : ℕ) → Automaton → Automaton → Verdict → Bool
compared L P x y v = not (strays x) && (not (strays y) && (eqb (letters y) (letters x) && (leb (length (pairs x y L P)) P && same_verdict (verdict x y L P) v)))

-- so many words of n letters are accepted, and so many are not
counted : (L : ℕ) → Automaton → (n k m : ℕ) → Bool
counted L x n k m = eqb (accepted_many x L n) k && eqb (rejected_many x L n) m

checked : (L P : ℕ) → Row → Bool
checked L P (accepts x w) = within L x (accepted_bytes x L w)
checked L P (rejects x w) = within L x (not (accepted_bytes x L w))
checked L P (reaches x n) = within L x (eqb (length (configurations x L)) n)
checked L P (unfolds_to x n) = within L x (eqb (length (plain_arcs x L)) n)
checked L P (compare_to x y v) = within L x (within L y (compared L P x y v))
checked L P (counts_to x n k m) = within L x (counted L x n k m)

within-fits : (L : ℕ) (x : Automaton) (t : Bool) → T (within L x t) → Apart (keys x.alphabet) × (length (configurations x L) ≤ L) × T t
unfolding within
within-fits L x t h =
    let p = (and-iff (unlike x.alphabet) (leb (length (configurations x L)) L && t)).0 h in
    let q = (and-iff (leb (length (configurations x L)) L) t).0 p.1 in
    ((unlike-iff x.alphabet).0 p.0, leb→le _ L q.0, q.1)

compared_right : (L P : ℕ) (x y : Automaton) (v : Verdict) → length (configurations x L) ≤ L → length (configurations y L) ≤ L → T (compared L P x y v) → Right x y L v
unfolding compared
compared_right L P x y v fx fy t =
    let p = (and-iff (not (strays x)) _).0 t in
    let q = (and-iff (not (strays y)) _).0 p.1 in
    let r = (and-iff (eqb (letters y) (letters x)) _).0 q.1 in
    let u = (and-iff (leb (length (pairs x y L P)) P) _).0 r.1 in
    subst (Right x y L) (same_verdict_true (verdict x y L P) v u.1)
    (verdict-right x y L P (lettered x p.0) (lettered y q.0) (eqb→eq (letters y) (letters x) r.0) fx fy (leb→le _ P u.0))

checked_holds : (L P : ℕ) (r : Row) → T (checked L P r) → Holds L r
unfolding checked counted
checked_holds L P (accepts x w) t = let p = within-fits L x (accepted_bytes x L w) t in (accepted_bytes-iff x p.0 L p.1 w).0 p.2
checked_holds L P (rejects x w) t =
    let p = within-fits L x (not (accepted_bytes x L w)) t in
    λ l. (not_iff (accepted_bytes x L w)).0 p.2 ((accepted_bytes-iff x p.0 L p.1 w).1 l)
checked_holds L P (reaches x n) t =
    let p = within-fits L x (eqb (length (configurations x L)) n) t in
    subst (Exactly (Reachable x)) (eqb→eq (length (configurations x L)) n p.2) (configurations-count x L p.1)
checked_holds L P (unfolds_to x n) t = let p = within-fits L x (eqb (length (plain_arcs x L)) n) t in eqb→eq (length (plain_arcs x L)) n p.2
checked_holds L P (compare_to x y v) t =
    let p = within-fits L x (within L y (compared L P x y v)) t in
    let q = within-fits L y (compared L P x y v) p.2 in
    compared_right L P x y v p.1 q.1 q.2
checked_holds L P (counts_to x n k m) t =
    let p = within-fits L x (counted L x n k m) t in
    let q = (and-iff (eqb (accepted_many x L n) k) (eqb (rejected_many x L n) m)).0 p.2 in
    (subst (Exactly (AcceptedOf x n)) (eqb→eq _ k q.0) (accepted-counts x L p.1 n), subst (Exactly (RejectedOf x n)) (eqb→eq _ m q.1) (rejected-counts x L p.1 n))

all-checked : (L P : ℕ) → List Row → Bool
all-checked L P [] = true
all-checked L P (r ∷ l) = checked L P r && all-checked L P l

all_hold_lem : (L P : ℕ) (l : List Row) → T (all-checked L P l) → (r : Row) → Memᴰ r l → Holds L r
unfolding all-checked
all_hold_lem L P [] t r k = absurd (Memᴰ.not-nil k)
all_hold_lem L P (x ∷ l) t r k =
    let p = (and-iff (checked L P x) (all-checked L P l)).0 t in
    ⊎_elim (λ (e : r ≡ x). rw e (checked_holds L P x p.0)) (λ (k : Memᴰ r l). all_hold_lem L P l p.1 r k) (Memᴰ.cases_cons k)

-- THE TABLE
pub rows-hold : (r : Row) → Memᴰ r rows → Holds 256 r
unfolding rows all-checked checked within unlike key has accepted_bytes configurations plain_arcs compared strays beyond any same_verdict same_by pairs verdict counted accepted_many rejected_many
rows-hold = all_hold_lem 256 512 rows tt
