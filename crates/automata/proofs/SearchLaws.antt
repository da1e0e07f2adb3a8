-- SearchLaws: each word that is met leads to its state, and no word that leads there comes before it; entries stand in the order of their
-- words, and so the first that passes a test has the first word that leads to such a state. Over any states, and any test of them.
use mathlib.Core.Path.{◌∙◌, ◌≡◌, ap, refl, subst, sym}
use mathlib.Core.Logic.{◌↔◌, ◌⊎◌, inl, inr, ⊎_elim}
use Prim.Native.Nat.{◌<◌, ◌≤◌, suc, zero, zero-le, ℕ}
use lib.Dec.{T}
use lib.ListN.{get_elem?, length}
use lib.Seq.{append_snoc}
use mathlib.Core.Bool.{Bool}
use mathlib.Core.List.Memᴰ
use mathlib.Core.List.{List, Memᴰ, [], ◌++◌, ◌∷◌, append-nil, map}
use mathlib.Core.Option.{Option, some-injective, some}
use native.Mathlib.Decide.{dec_lt}
use native.Mathlib.Omega.{arith}
use Rattle.automata.specs.Counting.{Exactly, MoreThan}
use Rattle.automata.specs.Exploration.{Reach, first, known, later}
use Rattle.automata.specs.Lists.{Each, count_from}
use Rattle.automata.specs.Search.{Entry, Finds, Over, Passes, entries, first_of, leads, met, next_entries, nexts, origin, same_entry}
use Rattle.automata.specs.WordOrder.{Before}
use Rattle.automata.proofs.CountingLaws.{counts_same, more_same}
use Rattle.automata.proofs.ExplorationLaws.{has-iff, known-closed, known-first, known-sound, walk-counts, walk_more}
use Rattle.automata.proofs.FirstLaws.{First, at, first_of-first, nowhere}
use Rattle.automata.proofs.ListLaws.{at_mem, count_from-iff, map-map, mem_at}
use Rattle.automata.proofs.Mapped.{known_map}
use Rattle.automata.proofs.OrderedExploration.{Sorted, Stands, earliest, ordered, sorted-at}
use Rattle.automata.proofs.WordOrderLaws.{before_last, before-longer, before_more, before-not, before-trans}

pub leads-snoc : {Q : Type 0} (δ : Q → ℕ → Q) (q : Q) (w : List ℕ) (x : ℕ) → leads δ q (w ++ x ∷ []) ≡ δ (leads δ q w) x
unfolding leads
leads-snoc δ q [] x = refl
leads-snoc δ q (y ∷ w) x = leads-snoc δ (δ q y) w x

pub over-snoc : (a : ℕ) (w : List ℕ) (x : ℕ) → Over a w → x < a → Over a (w ++ x ∷ [])
over-snoc a [] x o h = (h, tt)
over-snoc a (y ∷ w) x o h = (o.0, over-snoc a w x o.1 h)

module _ {Q : Type 0} (same : Q → Q → Bool) (δ : Q → ℕ → Q) (a : ℕ) (q₀ : Q) where
  abbrev all : ℕ → List (Entry Q)
  all n = entries same δ a q₀ n

  -- the words are carried along: the states met are the same, in the same order
  pub entries-met : (n : ℕ) → map (λ (e : Entry Q). e.state) (all n) ≡ met same δ a q₀ n
  unfolding entries met next_entries nexts
  entries-met n =
      (known_map (λ (e : Entry Q). e.state) (same_entry same) same (λ e. Unit {0}) (λ e f p q. refl)
      (next_entries δ a) (nexts δ a) (λ e p. (map-map (λ (e : Entry Q). e.state) _ (count_from 0 a), each-any (next_entries δ a e)))
      (origin q₀ ∷ []) (tt, tt) n).0
    where
      each-any : (l : List (Entry Q)) → Each (λ e. Unit {0}) l
      each-any [] = tt
      each-any (x ∷ l) = (tt, each-any l)

  -- ---- each word leads to its state
  abbrev True : Entry Q → Type 0
  True e = (leads δ q₀ e.word ≡ e.state) × Over a e.word

  abbrev E : Q → List ℕ → Entry Q
  E q w = record { state = q; word = w }

  next-iff : (e f : Entry Q) → Memᴰ f (next_entries δ a e) ↔ ((x : ℕ) × (x < a) × (f ≡ E (δ e.state x) (e.word ++ x ∷ [])))
  unfolding next_entries
  next-iff e f = (
    λ m. let p = Memᴰ.of_map _ (count_from 0 a) m in (p.0, omega (arith, (count_from-iff 0 a p.0).0 p.1), sym p.2),
    λ p. Memᴰ.cast p.2 (Memᴰ.map (λ x. E (δ e.state x) (e.word ++ x ∷ [])) ((count_from-iff 0 a p.0).1 (zero-le, omega (arith, p.1)))),
  )

  reach-true : {e : Entry Q} → Reach (next_entries δ a) (origin q₀ ∷ []) e → True e
  unfolding leads
  reach-true (first m) = rw (Memᴰ.eq_of_singleton m) (refl, tt)
  reach-true (later {x = d} {y = e} r m) =
      let t = reach-true r in
      let p = (next-iff d e).0 m in
      rw p.2 (leads-snoc δ q₀ d.word p.0 ∙ ap (λ (q : Q). δ q p.0) t.0, over-snoc a d.word p.0 t.1 p.1)

  pub entry-true : (n : ℕ) (e : Entry Q) → Memᴰ e (all n) → True e
  unfolding entries
  entry-true n e m = reach-true (known-sound (same_entry same) (next_entries δ a) (origin q₀ ∷ []) n m)

  word-reached : (q : Q) (v w : List ℕ) → Over a w → Reach (next_entries δ a) (origin q₀ ∷ []) (E q v) → Reach (next_entries δ a) (origin q₀ ∷ []) (E (leads δ q w) (v ++ w))
  unfolding leads
  word-reached q v [] o r = rw append-nil r
  word-reached q v (x ∷ w) o r = rw append_snoc at (word-reached (δ q x) (v ++ x ∷ []) w o.1 (later r ((next-iff (E q v) (E (δ q x) (v ++ x ∷ []))).1 (x, o.0, refl))))

  -- ---- in order
  abbrev Sooner : Entry Q → Entry Q → Type 0
  Sooner e f = Before e.word f.word

  next-sorted : (e : Entry Q) → Sorted Sooner (next_entries δ a e)
  unfolding next_entries count_from
  next-sorted e = go 0 a
    where
      at-letter : ℕ → Entry Q
      at-letter x = E (δ e.state x) (e.word ++ x ∷ [])

      go : (i n : ℕ) → Sorted Sooner (map at-letter (count_from i n))
      go i zero = tt
      go i (suc n) = (
        λ f m. let p = Memᴰ.of_map at-letter (count_from (suc i) n) m in
            rw (← p.2) (before_last e.word e.word i p.0 (omega (arith, (count_from-iff (suc i) n p.0).0 p.1))),
        go (suc i) n,
      )

  next-later : (e f : Entry Q) → Memᴰ f (next_entries δ a e) → Sooner e f
  next-later e f m = let p = (next-iff e f).0 m in rw p.2 (before-longer e.word e.word p.0 p.0)

  next-before : (e f u v : Entry Q) → Sooner e f → Memᴰ u (next_entries δ a e) → Memᴰ v (next_entries δ a f) → Sooner u v
  next-before e f u v b m k =
      let p = (next-iff e u).0 m in
      let q = (next-iff f v).0 k in
      rw (p.2, q.2) (before_more e.word f.word p.0 q.0 b)

  Sooner-trans : (e f g : Entry Q) → Sooner e f → Sooner f g → Sooner e g
  Sooner-trans e f g = before-trans e.word f.word g.word

  -- entries stand in the order of their words
  pub entries_sorted : (n : ℕ) → Sorted Sooner (all n)
  unfolding entries
  entries_sorted n = (ordered (same_entry same) (next_entries δ a) (origin q₀) Sooner Sooner-trans next-sorted next-later next-before n).sorted

  module _ (eq : (p q : Q) → T (same p q) ↔ (p ≡ q)) where
    -- the entry of the state that w leads to; w does not come before its word
    pub record Early (n : ℕ) (w : List ℕ) : Type 0 where
      pub entry : Entry Q
      pub among : Memᴰ entry (all n)
      pub leads_there : entry.state ≡ leads δ q₀ w
      pub order : (entry.word ≡ w) ⊎ Before entry.word w

    alike_next : (e f g : Entry Q) → T (same_entry same e f) → (f ≡ e) ⊎ Sooner f e → Memᴰ g (next_entries δ a e)
        → (g' : Entry Q) × Memᴰ g' (next_entries δ a f) × T (same_entry same g g') × ((g' ≡ g) ⊎ Sooner g' g)
    alike_next e f g t o m =
        let p = (next-iff e g).0 m in
        let s : e.state ≡ f.state = (eq _ _).0 t in
        let f' = E (δ f.state p.0) (f.word ++ p.0 ∷ []) in (
          f',
          (next-iff f f').1 (p.0, p.1, refl),
          (eq _ _).1 (ap (λ (e : Entry Q). e.state) p.2 ∙ ap (λ (q : Q). δ q p.0) s),
          ⊎_elim
              (λ (k : f ≡ e). inl (ap (λ (d : Entry Q). E (δ d.state p.0) (d.word ++ p.0 ∷ [])) k ∙ sym p.2))
              (λ k. inr (subst (λ (d : Entry Q). Before (f.word ++ p.0 ∷ []) d.word) (sym p.2) (before_more f.word e.word p.0 p.0 k)))
              o,
        )

    -- every word leads to a state that is met, and does not come before the word of its entry
    pub word-met : (n : ℕ) → length (all n) ≤ n → (w : List ℕ) → Over a w → Early n w
    unfolding entries
    word-met n h w o = record {
      entry = m.it;
      among = m.among;
      leads_there = sym ((eq _ _).0 m.alike);
      order = ⊎_elim (λ (k : m.it ≡ E (leads δ q₀ w) w). inl (ap (λ (e : Entry Q). e.word) k)) (λ k. inr k) m.order;
    }
      where
        m : Stands (same_entry same) Sooner (E (leads δ q₀ w) w) (known (same_entry same) (next_entries δ a) (origin q₀ ∷ []) n)
        m = earliest (same_entry same) (next_entries δ a) (origin q₀) Sooner Sooner-trans next-sorted next-later next-before
            (λ e. (eq e.state e.state).1 refl)
            (λ e f g p q. (eq e.state g.state).1 ((eq e.state f.state).0 p ∙ (eq f.state g.state).0 q))
            alike_next
            n h (word-reached q₀ [] w o (first (Memᴰ.head refl)))

    -- ---- the first entry that passes a test, whatever it tests of states
    module _ (test : Q → Bool) (n : ℕ) (fits : length (all n) ≤ n) where
      none_passes : ((e : Entry Q) → Memᴰ e (all n) → ¬ T (test e.state)) → (w : List ℕ) → ¬ Passes δ a q₀ test w
      none_passes h w p = let s = word-met n fits w p.0 in h s.entry s.among (rw s.leads_there p.1)

      first_passes : (i : ℕ) (e : Entry Q) → get_elem? (all n) i ≡ some e → ((j : ℕ) (f : Entry Q) → j < i → get_elem? (all n) j ≡ some f → ¬ T (test f.state))
          → (w : List ℕ) → Passes δ a q₀ test w → ¬ Before w e.word
      first_passes i e p h w r b = go (dec_lt place i) (dec_lt i place)
        where
          s : Early n w
          s = word-met n fits w r.0

          place : ℕ
          place = (mem_at s.among).0

          stands : get_elem? (all n) place ≡ some s.entry
          stands = (mem_at s.among).1

          -- the entry's word comes before e's, as w does
          sooner : Before s.entry.word e.word
          sooner = ⊎_elim (λ (k : s.entry.word ≡ w). rw k b) (λ k. before-trans s.entry.word w e.word k b) s.order

          go : Dec (place < i) → Dec (i < place) → ⊥
          go (yes l) d = h place s.entry l stands (rw s.leads_there r.1)
          go (no l) (yes k) = before-not e.word s.entry.word (inr (sorted-at Sooner (all n) i place (entries_sorted n) k p stands)) sooner
          go (no l) (no k) =
              let here : place ≡ i = omega arith in
              let same-one : s.entry ≡ e = some-injective s.entry e (sym (rw here at stands) ∙ p) in
              before-not e.word s.entry.word (inl (ap (λ (f : Entry Q). f.word) (sym same-one))) sooner

      -- THE LAW OF SEARCH: its word is the first of those that lead to a state that passes
      pub first_found : Finds δ a q₀ test (first_of (λ e. test e.state) (all n))
      first_found = go (first_of (λ e. test e.state) (all n)) (first_of-first (λ (e : Entry Q). test e.state) (all n))
        where
          go : (o : Option (Entry Q)) → First (λ (e : Entry Q). test e.state) (all n) o → Finds δ a q₀ test o
          go o (nowhere h) = none_passes h
          go o (at i e p t h) =
              let u = entry-true n e (at_mem (all n) i p) in
              (u.0, record { has = (u.1, rw u.0 t); first = first_passes i e p h })

module _ {Q : Type 0} (same : Q → Q → Bool) (eq : (p q : Q) → T (same p q) ↔ (p ≡ q)) (δ : Q → ℕ → Q) (a : ℕ) (q₀ : Q) where
  -- q is what some word leads to
  pub record Led (q : Q) : Type 0 where
    pub word : List ℕ
    pub over : Over a word
    pub leads_there : leads δ q₀ word ≡ q

  nexts-iff : (q r : Q) → Memᴰ r (nexts δ a q) ↔ ((x : ℕ) × (x < a) × (r ≡ δ q x))
  unfolding nexts
  nexts-iff q r = (
    λ m. let p = Memᴰ.of_map (δ q) (count_from 0 a) m in (p.0, omega (arith, (count_from-iff 0 a p.0).0 p.1), sym p.2),
    λ p. Memᴰ.cast p.2 (Memᴰ.map (δ q) ((count_from-iff 0 a p.0).1 (zero-le, omega (arith, p.1)))),
  )

  Led-reach : (q : Q) (w : List ℕ) → Over a w → Reach (nexts δ a) (q₀ ∷ []) q → Reach (nexts δ a) (q₀ ∷ []) (leads δ q w)
  unfolding leads
  Led-reach q [] o r = r
  Led-reach q (x ∷ w) o r = Led-reach (δ q x) w o.1 (later r ((nexts-iff q (δ q x)).1 (x, o.0, refl)))

  reach-led : {q : Q} → Reach (nexts δ a) (q₀ ∷ []) q → Led q
  unfolding leads
  reach-led (first m) = record { word = []; over = tt; leads_there = sym (Memᴰ.eq_of_singleton m) }
  reach-led (later {x = p} {y = q} r m) =
      let l = reach-led r in
      let n = (nexts-iff p q).0 m in
      record {
        word = l.word ++ n.0 ∷ [];
        over = over-snoc a l.word n.0 l.over n.1;
        leads_there = leads-snoc δ q₀ l.word n.0 ∙ ap (λ (r : Q). δ r n.0) l.leads_there ∙ sym n.2;
      }

  reached : (q : Q) → Reach (nexts δ a) (q₀ ∷ []) q ↔ Led q
  reached q = (reach-led, λ l. rw (← l.leads_there) (Led-reach q₀ l.word l.over (first (Memᴰ.head refl))))

  -- the count of what words lead to, whatever their length
  pub met-counts : (L : ℕ) → length (met same δ a q₀ L) ≤ L → Exactly Led (length (met same δ a q₀ L))
  unfolding met
  met-counts L h = counts_same reached (walk-counts same eq (nexts δ a) (q₀ ∷ []) (λ y m. absurd (Memᴰ.not-nil m), tt) L h)

  pub met-more : (L : ℕ) → L < length (met same δ a q₀ L) → MoreThan Led L
  unfolding met
  met-more L h = more_same reached (walk_more same eq (nexts δ a) (q₀ ∷ []) (λ y m. absurd (Memᴰ.not-nil m), tt) L h)

  -- the state that the empty word leads to has the first number
  pub met-first : (n : ℕ) → get_elem? (met same δ a q₀ n) 0 ≡ some q₀
  unfolding met
  met-first n = known-first same (nexts δ a) (q₀ ∷ []) n 0 refl

  -- where the walk has ended, each letter leads from a state that was met to one that was met
  pub met-closed : (n : ℕ) → length (met same δ a q₀ n) ≤ n → (i l : ℕ) {q : Q} → get_elem? (met same δ a q₀ n) i ≡ some q → l < a → (j : ℕ) × (get_elem? (met same δ a q₀ n) j ≡ some (δ q l))
  unfolding met
  met-closed n ended i l {q} p h =
      let all = known same (nexts δ a) (q₀ ∷ []) n in
      let t = known-closed same (nexts δ a) (q₀ ∷ []) (λ r. (eq r r).1 refl) n ended (at_mem all i p) ((nexts-iff q (δ q l)).1 (l, h, refl)) in
      let m = (has-iff same (δ q l) all).0 t in
      let k = mem_at m.1 in
      (k.0, k.1 ∙ ap some (sym ((eq (δ q l) m.0).0 m.2)))
