-- BuildBlock: what exploring and then closing the rows leave in the words stands for the automaton.
use mathlib.Core.Path.{◌∙◌, ◌≡◌, ap, refl, sym}
use mathlib.Core.Logic.{◌↔◌, ◌⊎◌, inr, ⊎_elim}
use mathlib.Core.Bool.{Bool}
use mathlib.Core.List.Memᴰ
use mathlib.Core.List.{List, Memᴰ, []}
use mathlib.Core.Option.{Option, map, some-injective, none, some}
use Prim.Native.Nat.{◌%◌, ◌*◌, ◌+◌, ◌/◌, ◌<◌, ◌≤◌, suc, zero, ℕ}
use native.Mathlib.Decide.{dec_lt}
use native.Mathlib.Nat.{le_of_suc-le-suc, not-suc-le-zero}
use native.Mathlib.Numerals.{add-one}
use native.Mathlib.Omega.{arith}
use borrow.Author.Tests.{le-ltb, lt-ltb}
use lib.Dec.{T}
use lib.ListN.{get_or, get_elem?, length}
use lib.Seq.{take_all}
use Rattle.automata.specs.Automaton.{Automaton, Configuration, Run, letters, silent, stay}
use Rattle.automata.specs.Lists.{count_from}
use Rattle.automata.specs.Live.{Moves, PlainArc}
use Rattle.automata.specs.Unfolding.{configurations, plain_all, plain_arcs}
use Rattle.automata.proofs.Laws.{at_map, at_mem, first-configuration, get_elem?-lt, get_elem?-some, iff-trans, mem_at, within}
use Rattle.table_explore.specs.Explores.{Explores, Walked, explored_of, start_of}
use Rattle.word_layout.specs.Layout.{arcs_at, configs, map_end, starts_at}
use Rattle.word_layout.specs.declared.Block.{Block}
use Rattle.table_configurations.specs.Tables.{fields_of, listed}
use Rattle.std.specs.Prelude as code
use Rattle.std.specs.Prelude.{Some, None}
use Rattle.table_configurations.specs.declared.Sizes.{Sizes}
use Rattle.format.specs.Encoding.{letter_byte}
use Rattle.word_fields.specs.Fields.{field}
use Rattle.word_fields.specs.Frame.{Kept}
use Rattle.word_fields.proofs.Laws.{field-same, part_same}
use Rattle.word_rows.specs.Rows.{Link, Closure, here, next, related}
use Rattle.table_sets.proofs.Laws.{held-each}
use Rattle.table_sets.specs.Stepping.{Among, Tells, end_at, start_at}
use Rattle.table.specs.Built.{Built, Stored}
use Rattle.table.proofs.PlainPlaces.{before-le, before-rises, source-at}

-- ---- fields
count_from-at : (i n j : ℕ) → j < n → get_elem? (count_from i n) j ≡ some (i + j)
unfolding count_from
count_from-at i zero j h = absurd (not-suc-le-zero h)
count_from-at i (suc n) zero h = ap some (omega arith)
count_from-at i (suc n) (suc j) h = count_from-at (suc i) n j (le_of_suc-le-suc h) ∙ ap some (omega arith)

fields_at : (w : List ℕ) (at n j : ℕ) → j < n → get_elem? (fields_of w at n) j ≡ some (field w at j)
unfolding fields_of
fields_at w at n j h = at_map (λ i. field w at i) (count_from 0 n) j ∙ ap (map (λ i. field w at i)) (count_from-at 0 n j h ∙ ap some (omega arith))

-- a letter's byte that is not the empty move's
letter-some : (o : Option ℕ) (l : ℕ) → letter_byte o ≡ l → l < 255 → o ≡ some l
letter-some none l e h = absurd (omega arith)
letter-some (some a) l e h = ap some e

-- ---- rows
-- where row i holds i and what one empty move leads to, paths through rows are runs of empty moves
path_run : (count : ℕ) (arcs : List PlainArc) (R : ℕ → ℕ → Bool) → ((a : PlainArc) → Memᴰ a arcs → a.target < count)
    → ((i j : ℕ) → i < count → T (R i j) ↔ ((j ≡ i) ⊎ Moves arcs i none j)) → (i j : ℕ) → i < count → Closure (Link count R) i j ↔ Run (Moves arcs) i [] j
path_run count arcs R inside f i j h = (λ p. to p, λ r. from h r)
  where
    to : {i j : ℕ} → Closure (Link count R) i j → Run (Moves arcs) i [] j
    to here = stay
    to (next {i = i} {j = m} l p) = ⊎_elim (λ (e : m ≡ i). rw (← e) (to p)) (λ n. silent n (to p)) ((f i m l.0).0 l.1)

    from : {i j : ℕ} → i < count → Run (Moves arcs) i [] j → Closure (Link count R) i j
    from h stay = here
    from {i} h (silent {y = m} n r) = next (h, (f i m h).1 (inr n)) (from (inside _ n) r)

-- ---- an automaton whose walk has ended: its block, and the block once its rows are closed
module _ (x : Automaton) (L : ℕ) (fits : length (configurations x L) ≤ L) {w w' : List ℕ} {base count plain : ℕ} (many : count ≡ length (configurations x L)) (plain-many : plain ≡ length (plain_arcs x L)) (few : count ≤ 256)
    (above : map_end ≤ base) (block : Walked x L w base count plain) (kept : Kept base (base + 4 * count) w w') (closed : (i j : ℕ) → i < count → T (related w' base i j) ↔ Closure (Link count (related w base)) i j) where
  abbrev arcs : List PlainArc
  arcs = plain_arcs x L

  inside : (a : PlainArc) → Memᴰ a arcs → a.target < count
  inside a m = rw many (within x L fits a m)

  -- The closed rows are the runs of empty moves.
  pub rows_run : (i j : ℕ) → i < count → T (related w' base i j) ↔ Run (Moves (plain_arcs x L)) i [] j
  rows_run i j h = iff-trans (closed i j h) (path_run count arcs (related w base) inside block.rows i j h)

  -- ---- the listed arcs
  at-arc : plain ≤ 2048 → (n : ℕ) {a : PlainArc} → get_elem? arcs n ≡ some a → field w' (arcs_at base) n ≡ listed a
  at-arc h n {a} e =
      let l : n < plain = omega (arith, get_elem?-lt arcs n e) in
      let q : some (field w (arcs_at base) n) ≡ some (listed a) =
      sym (fields_at w (arcs_at base) plain n l) ∙ ap (λ (f : List ℕ). get_elem? f n) (block.arcs h) ∙ at_map listed arcs n ∙ ap (map listed) e in
      field-same w w' (arcs_at base) n (kept.above (arcs_at base + n / 4) (omega arith)) ∙ some-injective (field w (arcs_at base) n) (listed a) q

  start_is : plain ≤ 2048 → (s : ℕ) → s < count → start_at w' base s ≡ start_of x L s
  unfolding start_at
  start_is h s l = field-same w w' (starts_at base) s (kept.above (starts_at base + s / 4) (omega arith)) ∙ block.starts h s l

  end_is : plain ≤ 2048 → (s : ℕ) → s < count → end_at w' base count plain s ≡ start_of x L (suc s)
  unfolding end_at start_of plain_arcs
  end_is h s l = go (dec_lt (s + 1) count)
    where
      go : Dec (s + 1 < count) → end_at w' base count plain s ≡ start_of x L (suc s)
      go (yes g) = rw (lt-ltb (s + 1) count g) (start_is h (s + 1) g ∙ ap (start_of x L) (add-one s))
      go (no g) = rw (le-ltb (s + 1) count (omega arith)) (plain-many ∙ ap (λ (cs : List Configuration). length (plain_all x (configurations x L) 0 cs)) (sym (take_all (suc s) (configurations x L) (omega arith))))

  -- Configuration s has the listed arcs from its start to its end.
  pub placed : plain ≤ 2048 → (s n : ℕ) {a : PlainArc} → s < count → get_elem? arcs n ≡ some a → ((start_at w' base s ≤ n) × (n < end_at w' base count plain s)) ↔ (a.source ≡ s)
  unfolding plain_arcs start_of
  placed h s n {a} l e = rw (start_is h s l, end_is h s l) (iff-trans (source-at x (configurations x L) 0 (configurations x L) s n e) (λ q. omega arith, λ q. omega arith))

  covers : plain ≤ 2048 → (s l j : ℕ) → s < count → l < 255
      → Among w' base (start_at w' base s) (end_at w' base count plain s) l j ↔ ((t : ℕ) × Moves arcs s (some l) t × Run (Moves arcs) t [] j)
  unfolding start_of plain_arcs
  covers h s l j hs hl = (
    λ a. let top : a.at < length arcs = omega (arith, a.high, end_is h s hs, before-le x (configurations x L) 0 (configurations x L) (suc s)) in
        let f = get_elem?-some arcs a.at top in
        let b = f.0 in
        let from : b.source ≡ s = (placed h s a.at hs f.1).0 (a.low, a.high) in
        let value = at-arc h a.at f.1 in
        let small = inside b (at_mem arcs a.at f.1) in
        let spells : b.letter ≡ some l = letter-some b.letter l (omega (arith, a.letter)) (omega arith) in
        let enters : field w' (arcs_at base) a.at % 256 ≡ b.target = omega arith in (
          b.target,
          Memᴰ.cast (λ i. record { source = (sym from) i; letter = (sym spells) i; target = b.target }) (at_mem arcs a.at f.1),
          (rows_run b.target j small).0 (rw enters at a.leads),
        ),
    λ q. let f = mem_at q.1 in
        let range = (placed h s f.0 hs f.1).1 refl in
        let value = at-arc h f.0 f.1 in
        let small = inside _ q.1 in
        let enters : field w' (arcs_at base) f.0 % 256 ≡ q.0 = omega arith in
        record { at = f.0; low = range.0; high = range.1; letter = omega arith; leads = rw enters ((rows_run q.0 j small).1 q.2) },
  )

  -- THE LAW of building.
  pub told : Tells 255 (plain_arcs x L) w' (record { base = base; count = count; plain = plain })
  unfolding start_of plain_arcs
  told = record {
    some = rw many (get_elem?-lt (configurations x L) 0 (first-configuration x L fits));
    few = few;
    within = inside;
    rows = rows_run;
    held = λ h. held-each inside (covers h);
    listed = λ h. record { few = few; less = h; zero = λ l. start_is h 0 l; each = λ c l. omega (arith, start_is h c l, before-le x (configurations x L) 0 (configurations x L) c); rises = λ c l. omega (arith, start_is h c l, end_is h c l, before-rises x (configurations x L) 0 (configurations x L) c) };
  }

-- ---- from the answer of exploring
abbrev sizes : ℕ → ℕ → code.Option Sizes
sizes count plain = Some (record { count = count; plain = plain })

same-sizes : (a b : Sizes) → Some a ≡ Some b → a ≡ b
same-sizes a b e = cc

pub explored-few : (x : Automaton) (L count plain : ℕ) → Some (record { count = count; plain = plain }) ≡ explored_of x L → (length (configurations x L) ≤ L) × (count ≡ length (configurations x L)) × (plain ≡ length (plain_arcs x L))
unfolding explored_of
explored-few x L count plain e = go (dec_lt L n)
  where
    n : ℕ
    n = length (configurations x L)

    go : Dec (L < n) → (n ≤ L) × (count ≡ n) × (plain ≡ length (plain_arcs x L))
    go (yes h) = absurd (let f : sizes count plain ≡ None = e ∙ rw (lt-ltb L n h) in let z : ◌≡◌ {A = ℕ} 0 1 = cc in omega arith)
    go (no h) = let f : sizes count plain ≡ sizes n (length (plain_arcs x L)) = e ∙ rw (le-ltb L n (omega arith)) in
        (omega arith, ap (λ (s : Sizes). s.count) (same-sizes _ _ f), ap (λ (s : Sizes). s.plain) (same-sizes _ _ f))

pub explored-many : (x : Automaton) (L : ℕ) → None ≡ explored_of x L → L < length (configurations x L)
unfolding explored_of
explored-many x L e = go (dec_lt L n)
  where
    n : ℕ
    n = length (configurations x L)

    go : Dec (L < n) → L < n
    go (yes h) = h
    go (no h) = absurd (let f : None ≡ sizes n (length (plain_arcs x L)) = e ∙ rw (le-ltb L n (omega arith)) in let z : ◌≡◌ {A = ℕ} 0 1 = cc in omega arith)

-- fewer letters are told as well
tells-fewer : {n : ℕ} {arcs : List PlainArc} {w : List ℕ} {block : Block} (k : ℕ) → k ≤ n → Tells n arcs w block → Tells k arcs w block
tells-fewer k h t = record {
  some = t.some;
  few = t.few;
  within = t.within;
  rows = t.rows;
  listed = t.listed;
  held = λ m. let f = t.held m in record { within = f.within; sound = λ s l j g b. f.sound s l j g (omega arith); full = λ s l j g b. f.full s l j g (omega arith) };
}

-- What exploring leaves, once the rows are closed, tells the plain arcs by every byte but that of the empty moves, and is built.
module _ (x : Automaton) (L : ℕ) {w w' : List ℕ} {base count plain : ℕ} (found : Explores x L w base (Some (record { count = count; plain = plain }))) (few : count ≤ 256) (above : map_end ≤ base) (kept : Kept base (base + 4 * count) w w')
    (closed : (i j : ℕ) → i < count → T (related w' base i j) ↔ Closure (Link count (related w base)) i j) where
  abbrev block : Block
  block = record { base = base; count = count; plain = plain }

  pub explored-told : Tells 255 (plain_arcs x L) w' block
  explored-told = let a = explored-few x L count plain found.answer in told x L a.0 a.1 a.2 few above found.block kept closed

  pub explored-built : letters x ≤ 255 → Built x L w' block
  explored-built short =
      let a = explored-few x L count plain found.answer in
      record { many = a.1; ended = rw a.1 a.0; tells = tells-fewer (letters x) short explored-told }

-- The configurations stand where they were, and where exploring left them.
pub stored-kept : (x : Automaton) (L : ℕ) (w w' : List ℕ) (count : ℕ) → length w' ≡ length w → ((i : ℕ) → i < count → get_or w' (configs + i) 0 ≡ get_or w (configs + i) 0) → Stored x L w count → Stored x L w' count
stored-kept x L w w' count e f t = part_same w w' configs count e f ∙ t

pub explored-stored : (x : Automaton) (L : ℕ) {w w' : List ℕ} {base count plain : ℕ} → Explores x L w base (Some (record { count = count; plain = plain })) → count ≤ 256 → map_end ≤ base → Kept base (base + 4 * count) w w' → Stored x L w' count
explored-stored x L {w} {w'} {count = count} found few above kept = stored-kept x L w w' count kept.long (λ i h. kept.below (configs + i) (omega arith)) found.block.table
