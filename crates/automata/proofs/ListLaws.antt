-- ListLaws: small laws of lists, options and tests that the library lacks.
use mathlib.Core.Path.{◌∙◌, ◌≡◌, ap, refl, subst, sym}
use mathlib.Core.Logic.{◌↔◌, ◌≢◌, ◌⊎◌, inl, inr, ⊎_elim}
use Prim.Native.Nat.{◌+◌, ◌<◌, ◌≤◌, suc, suc-le-suc, zero, zero-le, ℕ}
use lib.Dec.{T, eqb, eqb_refl, eqb→eq}
use lib.ListN.{get_or, get_elem?, length, set}
use mathlib.Core.Bool.{Bool, beq, ◌&&◌, ◌||◌, false, not, true}
use mathlib.Core.List.Memᴰ
use mathlib.Core.List.{List, Memᴰ, [], ◌++◌, ◌∷◌, flat_map, map}
use mathlib.Core.Option
use mathlib.Core.Option.{Option, some-injective, none, some}
use native.Mathlib.Decide.{ℕ_discrete}
use native.Mathlib.Nat.{le_of_suc-le-suc, not-suc-le-zero, suc-add}
use native.Mathlib.Omega.{arith}
use Rattle.automata.specs.Lists.{Each, any, collect, count_from, keep, only, prepend, same_by, same_letter}

pub none-some : {A : Type 0} {a : A} {C : Type 0} {o : Option A} → o ≡ none → o ≡ some a → C
none-some p q = let z : ◌≡◌ {A = ℕ} 0 1 = cc in absurd (omega arith)

pub iff-trans : {A B C : Type 0} → A ↔ B → B ↔ C → A ↔ C
iff-trans f g = (λ a. g.0 (f.0 a), λ c. f.1 (g.1 c))

pub or_iff : (a b : Bool) → T (a || b) ↔ (T a ⊎ T b)
or_iff true b = (λ t. inl tt, λ s. tt)
or_iff false b = (λ t. inr t, λ s. ⊎_elim (λ t. absurd t) (λ t. t) s)

pub and-iff : (a b : Bool) → T (a && b) ↔ (T a × T b)
and-iff true b = (λ t. (tt, t), λ p. p.1)
and-iff false b = (λ t. absurd t, λ p. p.0)

pub eqb-iff : (m n : ℕ) → T (eqb m n) ↔ (m ≡ n)
eqb-iff m n = (eqb→eq m n, λ e. rw e (eqb_refl n))

pub any-iff : {A : Type 0} (p : A → Bool) (l : List A) → T (any p l) ↔ ((x : A) × Memᴰ x l × T (p x))
unfolding any
any-iff p [] = (λ t. absurd t, λ s. absurd (Memᴰ.not-nil s.1))
any-iff {A} p (y ∷ l) = simp or_iff (
  λ s. ⊎_elim (λ (t : T (p y)). (y, Memᴰ.head refl, t)) (λ (t : T (any p l)). let q = (any-iff p l).0 t in (q.0, Memᴰ.tail q.1, q.2)) s,
  λ q. ⊎_elim (λ (e : q.0 ≡ y). inl (rw (← e) q.2)) (λ (m : Memᴰ q.0 l). inr ((any-iff p l).1 (q.0, m, q.2))) (Memᴰ.cases_cons q.1),
)

-- ---- places in a list
pub get_elem?-append : {A : Type 0} (l r : List A) (i : ℕ) {x : A} → get_elem? l i ≡ some x → get_elem? (l ++ r) i ≡ some x
get_elem?-append [] r i e = none-some refl e
get_elem?-append (y ∷ l) r zero e = e
get_elem?-append (y ∷ l) r (suc i) e = get_elem?-append l r i e

pub get_elem?-some : {A : Type 0} (l : List A) (i : ℕ) → i < length l → (x : A) × (get_elem? l i ≡ some x)
get_elem?-some [] i h = absurd (not-suc-le-zero h)
get_elem?-some (y ∷ l) zero h = (y, refl)
get_elem?-some (y ∷ l) (suc i) h = get_elem?-some l i (le_of_suc-le-suc h)

pub get_elem?-lt : {A : Type 0} (l : List A) (i : ℕ) {x : A} → get_elem? l i ≡ some x → i < length l
get_elem?-lt [] i e = none-some refl e
get_elem?-lt (y ∷ l) zero e = suc-le-suc zero-le
get_elem?-lt (y ∷ l) (suc i) e = suc-le-suc (get_elem?-lt l i e)

pub at_some : {A : Type 0} (l : List A) (i : ℕ) (d : A) → i < length l → get_elem? l i ≡ some (get_or l i d)
at_some [] i d h = absurd (not-suc-le-zero h)
at_some (y ∷ l) zero d h = refl
at_some (y ∷ l) (suc i) d h = at_some l i d (le_of_suc-le-suc h)

pub at_none : {A : Type 0} (l : List A) (i : ℕ) → length l ≤ i → get_elem? l i ≡ none
at_none [] i h = refl
at_none (y ∷ l) zero h = absurd (not-suc-le-zero h)
at_none (y ∷ l) (suc i) h = at_none l i (le_of_suc-le-suc h)

pub at_mem : {A : Type 0} (l : List A) (i : ℕ) {x : A} → get_elem? l i ≡ some x → Memᴰ x l
at_mem [] i e = none-some refl e
at_mem (y ∷ l) zero {x} e = Memᴰ.head (sym (some-injective y x e))
at_mem (y ∷ l) (suc i) e = Memᴰ.tail (at_mem l i e)

pub mem_at : {A : Type 0} {x : A} {l : List A} → Memᴰ x l → (i : ℕ) × (get_elem? l i ≡ some x)
mem_at (Memᴰ.head e) = (0, ap some (sym e))
mem_at (Memᴰ.tail m) = let p = mem_at m in (suc p.0, p.1)

pub get_elem?-none : {A : Type 0} (l : List A) (i : ℕ) → get_elem? l i ≡ none → length l ≤ i
get_elem?-none [] i e = zero-le
get_elem?-none (y ∷ l) zero e = none-some e refl
get_elem?-none (y ∷ l) (suc i) e = suc-le-suc (get_elem?-none l i e)

pub snoc_at_cases : {A : Type 0} (l : List A) (x : A) (j : ℕ) {y : A} → get_elem? (l ++ x ∷ []) j ≡ some y → (get_elem? l j ≡ some y) ⊎ ((length l ≤ j) × (y ≡ x))
snoc_at_cases [] x zero {y} p = inr (zero-le, sym (some-injective x y p))
snoc_at_cases [] x (suc j) p = none-some refl p
snoc_at_cases (z ∷ l) x zero p = inl p
snoc_at_cases (z ∷ l) x (suc j) p = ⊎_elim (λ q. inl q) (λ q. inr (suc-le-suc q.0, q.1)) (snoc_at_cases l x j p)

pub at_front : {A : Type 0} (l r : List A) (i : ℕ) → i < length l → get_elem? (l ++ r) i ≡ get_elem? l i
at_front [] r i h = absurd (not-suc-le-zero h)
at_front (x ∷ l) r zero h = refl
at_front (x ∷ l) r (suc i) h = at_front l r i (le_of_suc-le-suc h)

pub at_back : {A : Type 0} (l r : List A) (i : ℕ) → get_elem? (l ++ r) (length l + i) ≡ get_elem? r i
at_back [] r i = ap (get_elem? r) (omega arith)
at_back (x ∷ l) r i = rw suc-add (at_back l r i)

pub T_true : (b : Bool) → T b → b ≡ true
T_true true t = refl
T_true false t = absurd t

pub at_map : {A B : Type 0} (f : A → B) (l : List A) (i : ℕ) → get_elem? (map f l) i ≡ Option.map f (get_elem? l i)
at_map f [] i = refl
at_map f (x ∷ l) zero = refl
at_map f (x ∷ l) (suc i) = at_map f l i

-- ---- stores
pub get_elem?-set-same : {A : Type 0} (l : List A) (i : ℕ) (x : A) → i < length l → get_elem? (set l i x) i ≡ some x
get_elem?-set-same [] i x h = absurd (not-suc-le-zero h)
get_elem?-set-same (y ∷ l) zero x h = refl
get_elem?-set-same (y ∷ l) (suc i) x h = get_elem?-set-same l i x (le_of_suc-le-suc h)

pub get_elem?-set-other : {A : Type 0} (l : List A) (i k : ℕ) (x : A) → k ≢ i → get_elem? (set l i x) k ≡ get_elem? l k
get_elem?-set-other [] i k x n = refl
get_elem?-set-other (y ∷ l) zero zero x n = absurd (n refl)
get_elem?-set-other (y ∷ l) zero (suc k) x n = refl
get_elem?-set-other (y ∷ l) (suc i) zero x n = refl
get_elem?-set-other (y ∷ l) (suc i) (suc k) x n = get_elem?-set-other l i k x (λ e. n (ap suc e))

pub ext? : {A : Type 0} (l m : List A) → ((k : ℕ) → get_elem? l k ≡ get_elem? m k) → l ≡ m
ext? [] [] h = refl
ext? [] (y ∷ m) h = let e : none ≡ some y = h 0 in cc
ext? (x ∷ l) [] h = let e : some x ≡ none = h 0 in cc
ext? (x ∷ l) (y ∷ m) h = let e : some x ≡ some y = h 0 in let r : l ≡ m = ext? l m (λ k. h (suc k)) in cc

-- a store is the one list that document 003's write allows
pub set-unique : {A : Type 0} (u v : List A) (i : ℕ) (γ : A) → length v ≡ length u → get_elem? v i ≡ some γ → ((k : ℕ) → k ≢ i → get_elem? v k ≡ get_elem? u k) → set u i γ ≡ v
set-unique u v i γ n e h = ext? (set u i γ) v (λ k. at k (ℕ_discrete k i))
  where
    at : (k : ℕ) → Dec (k ≡ i) → get_elem? (set u i γ) k ≡ get_elem? v k
    at k (yes p) = rw p (get_elem?-set-same u i γ (rw (← n) (get_elem?-lt v i e)) ∙ sym e)
    at k (no p) = get_elem?-set-other u i k γ p ∙ sym (h k p)

-- ---- members
pub collect-iff : {A B : Type 0} (f : A → Option B) (l : List A) (y : B) → Memᴰ y (collect f l) ↔ ((a : A) × Memᴰ a l × (f a ≡ some y))
unfolding collect
collect-iff f [] y = (λ m. absurd (Memᴰ.not-nil m), λ s. absurd (Memᴰ.not-nil s.1))
collect-iff {A} {B} f (x ∷ l) y = go (collect-iff f l y) (f x) refl
  where
    Hit : List A → Type 0
    Hit l = (a : A) × Memᴰ a l × (f a ≡ some y)

    later : Hit l → Hit (x ∷ l)
    later s = (s.0, Memᴰ.tail s.1, s.2)

    cases : Hit (x ∷ l) → (f x ≡ some y) ⊎ Hit l
    cases s = ⊎_elim (λ (e : s.0 ≡ x). inl (rw (← e) s.2)) (λ (m : Memᴰ s.0 l). inr (s.0, m, s.2)) (Memᴰ.cases_cons s.1)

    go : Memᴰ y (collect f l) ↔ Hit l → (o : Option B) → f x ≡ o → Memᴰ y (prepend o (collect f l)) ↔ Hit (x ∷ l)
    go ih none e = (λ m. later (ih.0 m), λ s. ⊎_elim (λ (p : f x ≡ some y). none-some e p) ih.1 (cases s))
    go ih (some z) e = (
      λ m. ⊎_elim (λ (p : y ≡ z). (x, Memᴰ.head refl, cc)) (λ (k : Memᴰ y (collect f l)). later (ih.0 k)) (Memᴰ.cases_cons m),
      λ s. ⊎_elim (λ (p : f x ≡ some y). Memᴰ.head cc) (λ (h : Hit l). Memᴰ.tail (ih.1 h)) (cases s),
    )

pub flat_map-iff : {A B : Type 0} (f : A → List B) (l : List A) (y : B) → Memᴰ y (flat_map f l) ↔ ((x : A) × Memᴰ x l × Memᴰ y (f x))
unfolding flat_map
flat_map-iff f [] y = (λ m. absurd (Memᴰ.not-nil m), λ s. absurd (Memᴰ.not-nil s.1))
flat_map-iff {A} {B} f (x ∷ l) y = (
  λ m. ⊎_elim (λ m. (x, Memᴰ.head refl, m)) (λ m. let s = (flat_map-iff f l y).0 m in (s.0, Memᴰ.tail s.1, s.2)) (Memᴰ.append_cases (f x) m),
  λ s. ⊎_elim (λ (e : s.0 ≡ x). Memᴰ.append_left (flat_map f l) (rw e at s.2)) (λ (m : Memᴰ s.0 l). Memᴰ.append_right (f x) ((flat_map-iff f l y).1 (s.0, m, s.2))) (Memᴰ.cases_cons s.1),
)

pub keep-iff : {A : Type 0} (b : Bool) (l : List A) (y : A) → Memᴰ y (keep b l) ↔ (T b × Memᴰ y l)
unfolding keep
keep-iff true l y = (λ m. (tt, m), λ p. p.1)
keep-iff false l y = (λ m. absurd (Memᴰ.not-nil m), λ p. absurd p.0)

pub count_from-iff : (i n x : ℕ) → Memᴰ x (count_from i n) ↔ ((i ≤ x) × (x < i + n))
unfolding count_from
count_from-iff i zero x = (λ m. absurd (Memᴰ.not-nil m), λ p. absurd (omega arith))
count_from-iff i (suc n) x = (
  λ m. ⊎_elim (λ (e : x ≡ i). (omega arith, omega arith)) (λ m. let p = (count_from-iff (suc i) n x).0 m in (omega (arith, p), omega (arith, p))) (Memᴰ.cases_cons m),
  λ p. go (λ h. (count_from-iff (suc i) n x).1 h) (ℕ_discrete x i) p,
)
  where
    go : ((suc i ≤ x) × (x < suc i + n) → Memᴰ x (count_from (suc i) n)) → Dec (x ≡ i) → (i ≤ x) × (x < i + suc n) → Memᴰ x (i ∷ count_from (suc i) n)
    go ih (yes e) p = Memᴰ.head e
    go ih (no e) p = Memᴰ.tail (ih (omega arith, omega arith))

pub map-append : {A B : Type 0} (f : A → B) (l r : List A) → map f (l ++ r) ≡ map f l ++ map f r
map-append f [] r = refl
map-append {B = B} f (x ∷ l) r = ap (λ (t : List B). f x ∷ t) (map-append f l r)

pub map-map : {A B C : Type 0} (f : B → C) (g : A → B) (l : List A) → map f (map g l) ≡ map (λ x. f (g x)) l
map-map f g [] = refl
map-map {C = C} f g (x ∷ l) = ap (λ (t : List C). f (g x) ∷ t) (map-map f g l)

-- ---- what holds of each
pub each_snoc : {A : Type 0} (P : A → Type 0) (l : List A) (x : A) → Each P l → P x → Each P (l ++ x ∷ [])
each_snoc P [] x q p = (p, tt)
each_snoc P (y ∷ l) x q p = (q.0, each_snoc P l x q.1 p)

pub each-mem : {A : Type 0} (P : A → Type 0) {x : A} {l : List A} → Each P l → Memᴰ x l → P x
each-mem P h (Memᴰ.head e) = subst P (sym e) h.0
each-mem P h (Memᴰ.tail m) = each-mem P h.1 m

pub mem_each : {A : Type 0} {P : A → Type 0} (l : List A) → ((x : A) → Memᴰ x l → P x) → Each P l
mem_each [] h = tt
mem_each (x ∷ l) h = (h x (Memᴰ.head refl), mem_each l (λ y m. h y (Memᴰ.tail m)))

pub each-split : {A : Type 0} (P : A → Type 0) (l r : List A) → Each P (l ++ r) → Each P l × Each P r
each-split P [] r h = (tt, h)
each-split P (x ∷ l) r h = let s = each-split P l r h.1 in ((h.0, s.0), s.1)

pub each-join : {A : Type 0} (P : A → Type 0) (l r : List A) → Each P l → Each P r → Each P (l ++ r)
each-join P [] r h k = k
each-join P (x ∷ l) r h k = (h.0, each-join P l r h.1 k)

pub each_at : {A : Type 0} (P : A → Type 0) (l : List A) (i : ℕ) {x : A} → get_elem? l i ≡ some x → Each P l → P x
each_at P [] i e q = none-some refl e
each_at P (y ∷ l) zero {x} e q = subst P (some-injective y x e) q.0
each_at P (y ∷ l) (suc i) e q = each_at P l i e q.1

-- ---- tests that tell which are the same
pub same_by-iff : {A : Type 0} (same : A → A → Bool) → ((x y : A) → T (same x y) ↔ (x ≡ y)) → (u v : List A) → T (same_by same u v) ↔ (u ≡ v)
unfolding same_by
same_by-iff same eq [] [] = (λ t. refl, λ e. tt)
same_by-iff same eq [] (y ∷ v) = (λ t. absurd t, λ e. let z : ◌≡◌ {A = ℕ} 0 1 = cc in absurd (omega arith))
same_by-iff same eq (x ∷ u) [] = (λ t. absurd t, λ e. let z : ◌≡◌ {A = ℕ} 0 1 = cc in absurd (omega arith))
same_by-iff same eq (x ∷ u) (y ∷ v) = (
  λ t. let p = (and-iff (same x y) (same_by same u v)).0 t in let e = (eq x y).0 p.0 in let f = (same_by-iff same eq u v).0 p.1 in cc,
  λ e. let h : x ≡ y = cc in let r : u ≡ v = cc in (and-iff (same x y) (same_by same u v)).1 ((eq x y).1 h, (same_by-iff same eq u v).1 r),
)

pub same_letter-iff : (a b : Option ℕ) → T (same_letter a b) ↔ (a ≡ b)
unfolding same_letter
same_letter-iff none none = (λ t. refl, λ e. tt)
same_letter-iff none (some b) = (λ t. absurd t, λ e. none-some refl e)
same_letter-iff (some a) none = (λ t. absurd t, λ e. none-some refl (sym e))
same_letter-iff (some a) (some b) = (λ t. ap some (eqb→eq a b t), λ e. (eqb-iff a b).1 (some-injective a b e))

pub beq-iff : (x y : Bool) → T (beq x y) ↔ (x ≡ y)
beq-iff true true = (λ t. refl, λ e. tt)
beq-iff true false = (λ t. absurd t, λ e. let z : ◌≡◌ {A = ℕ} 0 1 = cc in absurd (omega arith))
beq-iff false true = (λ t. absurd t, λ e. let z : ◌≡◌ {A = ℕ} 0 1 = cc in absurd (omega arith))
beq-iff false false = (λ t. refl, λ e. tt)

-- ---- tests

pub not_iff : (b : Bool) → T (not b) ↔ (¬ T b)
not_iff true = (λ t. absurd t, λ f. f tt)
not_iff false = (λ t u. u, λ f. tt)

pub Bool-ext : (a b : Bool) → (T a → T b) → (T b → T a) → a ≡ b
Bool-ext true true f g = refl
Bool-ext true false f g = absurd (f tt)
Bool-ext false true f g = absurd (g tt)
Bool-ext false false f g = refl

pub only-iff : {A : Type 0} (b : Bool) (a v : A) → (only b a ≡ some v) ↔ (T b × (a ≡ v))
only-iff true a v = (λ e. (tt, some-injective a v e), λ p. ap some p.1)
only-iff false a v = (λ e. absurd (let z : ◌≡◌ {A = ℕ} 0 1 = cc in omega arith), λ p. absurd p.0)
