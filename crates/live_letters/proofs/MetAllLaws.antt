-- MetAllLaws: what the sets of letters, met one after the other, leave: rows that can be found, a table, and the entries of an exploration.
use Rattle.std.proofs.Common.{Option, Some, None}
use mathlib.Core.Path.{◌≡◌, refl, subst, sym}
use mathlib.Core.Logic.{inl, inr}
use mathlib.Core.Bool.{Bool}
use mathlib.Core.List.{List, [], ◌∷◌, map}
use mathlib.Core.Option.{some}
use Prim.Native.Nat.{◌*◌, ◌+◌, ◌-◌, ◌<◌, ◌≤◌, ℕ}
use native.Mathlib.Omega.{arith}
use lib.Dec.{eqb}
use lib.ListN.{get_elem?}
use Rattle.automata.specs.Exploration.{add, add_all}
use Rattle.automata.specs.Lists.{Each, count_from}
use Rattle.automata.specs.Pairs.{Pair}
use Rattle.automata.specs.Search.{Entry, next_entries}
use Rattle.automata.proofs.Laws.{add_all-at, add_all-length, count_from-iff, mem_each}
use Rattle.word_layout.specs.declared.SetTable.{SetTable}
use Rattle.live_table.specs.Entries.{Holds, Side, alike, along, on_entry}
use Rattle.live_table.specs.SetRows.{Met, RowChain}
use Rattle.live_letters.specs.Meeting.{Behind, Grows, Outcome, Table}
use Rattle.live_letters.proofs.MeetRow.{met, met-grows}
use Rattle.live_letters.specs.MeetingAll.{MetAll}

-- ---- what is said of the words and of a list that f l joins with letter l: if it holds again behind each letter, it holds behind all
module _ {X : Type 0} (same : X → X → Bool) (f : ℕ → X) (t : SetTable) (us vs : ℕ → List ℕ) (i : ℕ) (Said : List X → List ℕ → Option ℕ → Type 0) (Good : ℕ → Type 0)
    (one : (xs : List X) (l : ℕ) (w w' : List ℕ) (n : ℕ) (r : Option ℕ) → Good l → Said xs w (Some n) → Met t w w' n (us l) (vs l) (i * 64 + l) r → Said (add same xs (f l)) w' r)
    (over : (xs : List X) (l : ℕ) (w : List ℕ) → Said xs w None → Said (add same xs (f l)) w None) where
  over-all : (letters : List ℕ) (xs : List X) (w : List ℕ) → Said xs w None → Said (add_all same xs (map f letters)) w None
  unfolding add_all
  over-all [] xs w h = h
  over-all (l ∷ letters) xs w h = over-all letters (add same xs (f l)) w (over xs l w h)

  -- THE LAW
  pub met_all : (letters w : List ℕ) (n : ℕ) (w' : List ℕ) (r : Option ℕ) (xs : List X) → Each Good letters → Said xs w (Some n) → MetAll t us vs i letters w n w' r
      → Said (add_all same xs (map f letters)) w' r
  unfolding MetAll add_all
  met_all [] w n w' r xs g h (e, o) = subst (λ (r : Option ℕ). Said xs w' r) (sym o) (subst (λ (v : List ℕ). Said xs v (Some n)) (sym e) h)
  met_all (l ∷ letters) w n w' r xs g h (inl (m, o)) =
      subst (λ (r : Option ℕ). Said (add_all same (add same xs (f l)) (map f letters)) w' r) (sym o) (over-all letters (add same xs (f l)) w' (one xs l w w' n None g.0 h m))
  met_all (l ∷ letters) w n w' r xs g h (inr (v, k, m, z)) = met_all letters v k w' r (add same xs (f l)) g.1 (one xs l w v n (Some k) g.0 h m) z

-- ---- of the words alone, whatever the list
-- the rows can be found, unless there are too many
abbrev pub Findable : SetTable → List ℕ → Option ℕ → Type 0
Findable t w None = Unit {0}
Findable t w (Some n) = (n ≤ 512) × RowChain t w n

pub met-rows : (t : SetTable) (w w' u v : List ℕ) (n from : ℕ) (r : Option ℕ) → Findable t w (Some n) → Met t w w' n u v from r → Findable t w' r
met-rows t w w' u v n from None k m = tt
met-rows t w w' u v n from (Some m) k (inl o) = rw (o.many, o.same) k
met-rows t w w' u v n from (Some m) k (inr o) = rw o.many (omega (arith, o.room), o.added.chain)

grows_from : (a : ℕ) (t : SetTable) (w : List ℕ) (n₀ n : ℕ) (r : Option ℕ) → n₀ ≤ n → Grows a t w n r → Grows a t w n₀ r
grows_from a t w n₀ n None h g = tt
grows_from a t w n₀ n (Some m) h g = (omega (arith, g.0), g.1)

module _ (t : SetTable) (us vs : ℕ → List ℕ) (i : ℕ) (letters w : List ℕ) (n : ℕ) (w' : List ℕ) where
  pub MetAll-rows : (m : ℕ) → MetAll t us vs i letters w n w' (Some m) → n ≤ 512 → RowChain t w n → (m ≤ 512) × RowChain t w' m
  MetAll-rows m z few chain =
      met_all {X = ℕ} eqb (λ l. l) t us vs i (λ _ v r. Findable t v r) (λ _. Unit {0}) (λ _ l v v' k r _ h x. met-rows t v v' (us l) (vs l) k (i * 64 + l) r h x) (λ _ _ _ h. h)
      letters w n w' (Some m) [] (mem_each letters (λ _ _. tt)) (few, chain) z

  pub MetAll-table : {a : ℕ} (r : Option ℕ) → a ≤ 64 → i < n → Each (λ l. l < a) letters → Table a t w n → MetAll t us vs i letters w n w' r → Grows a t w' n r
  MetAll-table {a} r ha hi below h z =
      met_all {X = ℕ} eqb (λ l. l) t us vs i (λ _ v r. Grows a t v n r) (λ l. l < a)
      (λ _ l v v' k r hl g x. grows_from a t v' n k r g.0 (met-grows a t v v' (us l) (vs l) k i l (omega (arith, g.0)) hl ha g.1 r x)) (λ _ _ _ h. h)
      letters w n w' r [] below (omega arith, h) z

  -- ---- of the entries that one letter more leads to from entry i
  pub MetAll-entries : {a : ℕ} (r : Option ℕ) (x y : Side) (es : List (Entry Pair)) (e : Entry Pair)
      → a ≤ 64 → Each (λ l. l < a) letters → ((l : ℕ) → l < a → Behind x e.state.left l (us l) × Behind y e.state.right l (vs l))
      → Holds t x y w n es → get_elem? es i ≡ some e → MetAll t us vs i letters w n w' r → Outcome 512 t x y w' (add_all alike es (map (on_entry x y e) letters)) r
  unfolding along add_all
  MetAll-entries {a} r x y es e ha below b h p z =
      (met_all alike (on_entry x y e) t us vs i (λ fs v r. Outcome 512 t x y v fs r × (get_elem? fs i ≡ some e)) (λ l. l < a)
      (λ fs l v v' k r hl o m. let s = b l hl in
      (met t x y v k (us l) (vs l) fs (on_entry x y e l) o.0 s.0 s.1 v' i l e o.1 (omega arith) refl r m, add_all-at alike fs (on_entry x y e l ∷ []) i o.1))
      (λ fs l v o. (omega (arith, o.0, add_all-length alike fs (on_entry x y e l ∷ [])), add_all-at alike fs (on_entry x y e l ∷ []) i o.1))
      letters w n w' r es below (h, p) z).0

-- ---- all letters from row i, in their order
module _ {a : ℕ} (ha : a ≤ 64) (t : SetTable) (us vs : ℕ → List ℕ) (i low : ℕ) (w : List ℕ) (n : ℕ) (w' : List ℕ) (r : Option ℕ) (m : MetAll t us vs i (count_from low (a - low)) w n w' r) where
  below : Each (λ l. l < a) (count_from low (a - low))
  below = mem_each (count_from low (a - low)) (λ l k. omega (arith, (count_from-iff low (a - low) l).0 k))

  -- the table has become one of more rows
  pub all-grows : i < n → Table a t w n → Grows a t w' n r
  all-grows hi k = MetAll-table t us vs i (count_from low (a - low)) w n w' r ha hi below k m

  -- its entries are those that the exploration adds
  pub all-entries : low ≡ 0 → (x y : Side) (es : List (Entry Pair)) (e : Entry Pair) → ((l : ℕ) → l < a → Behind x e.state.left l (us l) × Behind y e.state.right l (vs l))
      → Holds t x y w n es → get_elem? es i ≡ some e → Outcome 512 t x y w' (add_all alike es (next_entries (along x y) a e)) r
  unfolding next_entries
  all-entries z x y es e b h p =
      let k : count_from low (a - low) ≡ count_from 0 a = let o : a - 0 ≡ a = omega arith in rw (z, o) in
      subst (λ (letters : List ℕ). Outcome 512 t x y w' (add_all alike es (map (on_entry x y e) letters)) r) k
      (MetAll-entries t us vs i (count_from low (a - low)) w n w' r x y es e ha below b h p m)
