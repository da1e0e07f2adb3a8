-- FillingLaws: the states behind the places are those that fillings lead to, each once; over any states. And places have a filling where no
-- low is above its high.
use mathlib.Core.Path.{◌∙◌, ◌≡◌, ap, refl, subst, sym}
use mathlib.Core.Logic.{◌↔◌, ◌⊎◌, inl, inr, ⊎_elim}
use mathlib.Core.Bool.{Bool}
use mathlib.Core.List.Memᴰ
use mathlib.Core.List.{List, Memᴰ, [], ◌++◌, ◌∷◌, flat_map, map}
use Prim.Native.Nat.{◌<◌, ◌≤◌, ℕ}
use native.Mathlib.Decide.{dec_lt}
use native.Mathlib.Omega.{arith}
use lib.Dec.{T, ltb, ltb→lt, lt→ltb}
use lib.ListN.{length}
use Rattle.automata.specs.Counting.{Exactly}
use Rattle.automata.specs.Exploration.{Distinct, add_all, has}
use Rattle.automata.specs.Lists.{Each}
use Rattle.automata.specs.Search.{leads}
use Rattle.automata.proofs.Laws.{add_all-cases, add_all-distinct, add_all-has, any-iff, count_from-iff, distinct_apart, flat_map-iff, or_iff}
use Rattle.fillings.specs.Fillings.{Fills, Range, behind_place, behind_places, letters_in, many_behind}

-- the lowest letter of each range is a filling
pub fillable : (rs : List Range) → Each (λ r. r.low ≤ r.high) rs → (w : List ℕ) × Fills rs w
fillable [] h = ([], tt)
fillable (r ∷ rs) h = let f = fillable rs h.1 in (r.low ∷ f.0, (omega arith, h.0, f.1))

letters-iff : (r : Range) (l : ℕ) → Memᴰ l (letters_in r) ↔ ((r.low ≤ l) × (l ≤ r.high))
letters-iff r l = (
  λ m. let h = (count_from-iff r.low _ l).0 m in (h.0, omega (arith, h.0, h.1)),
  λ h. (count_from-iff r.low _ l).1 (h.0, omega (arith, h.0, h.1)),
)

-- a filling leads from q₀ to q
pub record Led {Q : Type 0} (δ : Q → ℕ → Q) (q₀ : Q) (rs : List Range) (q : Q) : Type 0 where
  pub word : List ℕ
  pub fills : Fills rs word
  pub is : leads δ q₀ word ≡ q

module _ {Q : Type 0} (same : Q → Q → Bool) (eq : (p q : Q) → T (same p q) ↔ (p ≡ q)) (δ : Q → ℕ → Q) where
  -- ---- one place
  -- a letter of the range leads from one of the states to q
  record Stepped (states : List Q) (r : Range) (q : Q) : Type 0 where
    from : Q
    among : Memᴰ from states
    letter : ℕ
    low : r.low ≤ letter
    high : letter ≤ r.high
    is : δ from letter ≡ q

  place-iff : (states : List Q) (r : Range) (q : Q) → Memᴰ q (behind_place same δ states r) ↔ Stepped states r q
  unfolding behind_place has
  place-iff states r q = (
    λ m. ⊎_elim (λ (k : Memᴰ q []). absurd (Memᴰ.not-nil k)) there (add_all-cases same [] all m),
    λ s. let p = (any-iff (same q) (add_all same [] all)).0 (add_all-has same (λ p. (eq p p).1 refl) [] all (back s)) in Memᴰ.cast ((eq q p.0).0 p.2) p.1,
  )
    where
      all : List Q
      all = flat_map (λ p. map (δ p) (letters_in r)) states

      there : Memᴰ q all → Stepped states r q
      there k =
          let f = (flat_map-iff (λ p. map (δ p) (letters_in r)) states q).0 k in
          let g = Memᴰ.of_map (δ f.0) (letters_in r) f.2 in
          let h = (letters-iff r g.0).0 g.1 in
          record { from = f.0; among = f.1; letter = g.0; low = h.0; high = h.1; is = g.2 }

      back : Stepped states r q → Memᴰ q all
      back s =
          let l = (letters-iff r s.letter).1 (s.low, s.high) in
          (flat_map-iff (λ p. map (δ p) (letters_in r)) states q).1 (s.from, s.among, Memᴰ.cast (sym s.is) (Memᴰ.map (δ s.from) l))

  place-distinct : (states : List Q) (r : Range) → Distinct same (behind_place same δ states r)
  unfolding behind_place
  place-distinct states r = add_all-distinct same [] (flat_map (λ p. map (δ p) (letters_in r)) states) tt

  -- ---- all places
  -- a filling leads from one of the states to q
  record Reached (states : List Q) (rs : List Range) (q : Q) : Type 0 where
    from : Q
    among : Memᴰ from states
    word : List ℕ
    fills : Fills rs word
    is : leads δ from word ≡ q

  places-iff : (states : List Q) (rs : List Range) (q : Q) → Memᴰ q (behind_places same δ states rs) ↔ Reached states rs q
  unfolding behind_places leads
  places-iff states [] q = (
    λ m. record { from = q; among = m; word = []; fills = tt; is = refl },
    λ t. nothing t.word t.fills t.is t.among,
  )
    where
      nothing : {p : Q} (w : List ℕ) → Fills [] w → leads δ p w ≡ q → Memᴰ p states → Memᴰ q states
      nothing [] f e m = Memᴰ.cast (sym e) m
      nothing (l ∷ w) f e m = absurd f
  places-iff states (r ∷ rs) q = go (places-iff (behind_place same δ states r) rs q)
    where
      onward : {p : Q} (w : List ℕ) → Fills (r ∷ rs) w → leads δ p w ≡ q → Memᴰ p states → Reached (behind_place same δ states r) rs q
      onward [] f e m = absurd f
      onward {p} (l ∷ w) f e m = record {
        from = δ p l;
        among = (place-iff states r (δ p l)).1 (record { from = p; among = m; letter = l; low = f.0; high = f.1; is = refl });
        word = w;
        fills = f.2;
        is = e;
      }

      go : Memᴰ q (behind_places same δ (behind_place same δ states r) rs) ↔ Reached (behind_place same δ states r) rs q
          → Memᴰ q (behind_places same δ states (r ∷ rs)) ↔ Reached states (r ∷ rs) q
      go ih = (
        λ m. let t = ih.0 m in
            let s = (place-iff states r t.from).0 t.among in
            record { from = s.from; among = s.among; word = s.letter ∷ t.word; fills = (s.low, s.high, t.fills); is = ap (λ (p : Q). leads δ p t.word) s.is ∙ t.is },
        λ t. ih.1 (onward t.word t.fills t.is t.among),
      )

  places-distinct : (states : List Q) (rs : List Range) → Distinct same states → Distinct same (behind_places same δ states rs)
  unfolding behind_places
  places-distinct states [] d = d
  places-distinct states (r ∷ rs) d = places-distinct (behind_place same δ states r) rs (place-distinct states r)

  -- THE LAW: behind all places stand exactly the states that fillings lead to
  pub Filled-iff : (q₀ : Q) (rs : List Range) (q : Q) → Memᴰ q (behind_places same δ (q₀ ∷ []) rs) ↔ Led δ q₀ rs q
  Filled-iff q₀ rs q = (
    λ m. let t = (places-iff (q₀ ∷ []) rs q).0 m in
        record { word = t.word; fills = t.fills; is = ap (λ (p : Q). leads δ p t.word) (sym (Memᴰ.eq_of_singleton t.among)) ∙ t.is },
    λ t. (places-iff (q₀ ∷ []) rs q).1 (record { from = q₀; among = Memᴰ.head refl; word = t.word; fills = t.fills; is = t.is }),
  )

  -- each once
  pub Filled-counts : (q₀ : Q) (rs : List Range) → Exactly (Led δ q₀ rs) (length (behind_places same δ (q₀ ∷ []) rs))
  Filled-counts q₀ rs = record {
    list = behind_places same δ (q₀ ∷ []) rs;
    apart = distinct_apart same eq (behind_places same δ (q₀ ∷ []) rs) (places-distinct (q₀ ∷ []) rs (λ y m. absurd (Memᴰ.not-nil m), tt));
    each = Filled-iff q₀ rs;
    many = refl;
  }

-- ---- more than P behind one of the places
module _ {Q : Type 0} (same : Q → Q → Bool) (δ : Q → ℕ → Q) (P : ℕ) where
  -- there are more than P behind the last place of a front of all
  pub record LongFront (states : List Q) (rs : List Range) : Type 0 where
    pub front : List Range
    pub rest : List Range
    pub split : front ++ rest ≡ rs
    pub long : P < length (behind_places same δ states front)

  many-front : (states : List Q) (rs : List Range) → T (many_behind same δ P states rs) → LongFront states rs
  unfolding many_behind behind_places
  many-front states [] t = absurd t
  many-front states (r ∷ rs) t = ⊎_elim
      (λ h. record { front = r ∷ []; rest = rs; split = refl; long = ltb→lt P (length (behind_place same δ states r)) h })
      (λ h. further (many-front (behind_place same δ states r) rs h))
      ((or_iff (ltb P (length (behind_place same δ states r))) (many_behind same δ P (behind_place same δ states r) rs)).0 t)
    where
      further : LongFront (behind_place same δ states r) rs → LongFront states (r ∷ rs)
      further f = record { front = r ∷ f.front; rest = f.rest; split = ap (λ (l : List Range). r ∷ l) f.split; long = f.long }

  front-many : (states : List Q) (front rest : List Range) → length states ≤ P → P < length (behind_places same δ states front) → T (many_behind same δ P states (front ++ rest))
  unfolding many_behind behind_places
  front-many states [] rest few long = absurd (omega arith)
  front-many states (r ∷ front) rest few long = (or_iff (ltb P (length next)) (many_behind same δ P next (front ++ rest))).1 (go (λ h. front-many next front rest h long) (dec_lt P (length next)))
    where
      next : List Q
      next = behind_place same δ states r

      go : (length next ≤ P → T (many_behind same δ P next (front ++ rest))) → Dec (P < length next) → T (ltb P (length next)) ⊎ T (many_behind same δ P next (front ++ rest))
      go ih (yes h) = inl (lt→ltb P (length next) h)
      go ih (no h) = inr (ih (omega arith))

  -- with at most P before the first place, so that the front with no place has no more
  pub many-iff : (states : List Q) (rs : List Range) → length states ≤ P → T (many_behind same δ P states rs) ↔ LongFront states rs
  many-iff states rs few = (many-front states rs, λ f. subst (λ (l : List Range). T (many_behind same δ P states l)) f.split (front-many states f.front f.rest few f.long))
