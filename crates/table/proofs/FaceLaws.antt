-- FaceLaws: the plain arcs that an open file's block tells are its automaton's, in their order.
use mathlib.Core.Path.{◌∙◌, ◌≡◌, ap, ap₂, refl, sym}
use mathlib.Core.List.{List, [], ◌++◌, ◌∷◌, append-nil, flat_map, map}
use mathlib.Core.Option.{Option, none, some}
use Prim.Native.Nat.{◌%◌, ◌+◌, ◌-◌, ◌/◌, ◌<◌, ◌≤◌, suc, ℕ}
use native.Mathlib.Decide.{dec_lt}
use native.Mathlib.Nat.{add-zero}
use native.Mathlib.Numerals.{add-one}
use native.Mathlib.Omega.{arith}
use borrow.Author.Tests.{le-ltb, lt-ltb, ne_eqb}
use lib.ListN.{length, length-append, take}
use lib.Seq.{take_all}
use Rattle.automata.specs.Automaton.{Automaton, Configuration, WellFormed, letters}
use Rattle.automata.specs.Lists.{Each, count_from}
use Rattle.automata.specs.Live.{PlainArc}
use Rattle.automata.specs.Performing.{Move, successors}
use Rattle.automata.specs.Unfolding.{configurations, plain_all, plain_arcs, plain_from}
use Rattle.automata.proofs.Laws.{each-split, map-map, mem_each}
use Rattle.file_fields.specs.declared.Counts.{Counts}
use Rattle.format.specs.Decoding.{automaton_of, letter_of}
use Rattle.format.specs.Encoding.{letter_byte}
use Rattle.file_laws.proofs.Laws.{valid-ranges, valid-sizes, valid-well_formed}
use Rattle.word_layout.specs.Layout.{arcs_at, packed_arc}
use Rattle.word_layout.specs.declared.Block.{Block}
use Rattle.word_fields.specs.Fields.{field}
use Rattle.table_configurations.specs.Tables.{fields_of, listed}
use Rattle.table_explore.specs.Explores.{Walked, start_of}
use Rattle.table_sets.specs.Stepping.{end_at, start_at}
use Rattle.table.specs.Face.{plain_end, plain_start, plains_between, plains_leaving, plains_of_many}
use Rattle.table.specs.Opening.{Holds}
use Rattle.table.proofs.Opening.{holds-count, holds-few, holds_plain}
use Rattle.table.proofs.PlainFits.{PlainFits, plain-fit}
use Rattle.table.proofs.PlainPlaces.{before-le}

module _ {A : Type 0} (f : ℕ → A) where
  -- where they are the images of a list of two parts, those of each part are
  pub counted-split : {B : Type 0} (g : B → A) (l r : List B) (i : ℕ) → map f (count_from i (length (l ++ r))) ≡ map g (l ++ r)
      → (map f (count_from i (length l)) ≡ map g l) × (map f (count_from (i + length l) (length r)) ≡ map g r)
  unfolding count_from
  counted-split g [] r i e = (refl, rw (add-zero i) e)
  counted-split g (x ∷ l) r i e =
      let first : f i ≡ g x = cc in
      let rest : map f (count_from (suc i) (length (l ++ r))) ≡ map g (l ++ r) = cc in
      let q = counted-split g l r (suc i) rest in
      let n : i + suc (length l) ≡ suc i + length l = omega arith in
      (ap₂ (λ (y : A) (t : List A). y ∷ t) first q.0, rw n q.1)

-- the plain arc from configuration s that is listed as `entry`
abbrev plain_listed : ℕ → ℕ → PlainArc
plain_listed s entry = record { source = s; letter = letter_of (entry / 256); target = entry % 256 }

-- ---- one arc
letter-back : (α : Option ℕ) → ((l : ℕ) → α ≡ some l → l < 255) → letter_of (letter_byte α) ≡ α
unfolding letter_of
letter-back none h = refl
letter-back (some l) h = let f = h l refl in rw (ne_eqb l 255 (λ e. omega arith))

-- what is listed of a plain arc between 256 configurations tells it
arc-back : (a : PlainArc) → PlainFits 256 255 a → plain_listed a.source (listed a) ≡ a
arc-back a h =
    let b = letter_byte a.letter in
    let t = h.target in
    let q : (packed_arc b a.target) / 256 ≡ b = omega arith in
    let r : (packed_arc b a.target) % 256 ≡ a.target = omega arith in
    let l = letter-back a.letter h.lettered in
    λ i. record { source = a.source; letter = (ap letter_of q ∙ l) i; target = r i }

module _ (x : Automaton) (all : List Configuration) (w : List ℕ) (block : Block) where
  abbrev base : ℕ
  base = block.base

  abbrev entry : ℕ → ℕ
  entry i = field w (arcs_at base) i

  arcs-back : (s : ℕ) (ms : List Move) → Each (PlainFits 256 255) (plain_from all s ms) → map (λ a. plain_listed s (listed a)) (plain_from all s ms) ≡ plain_from all s ms
  unfolding plain_from
  arcs-back s [] h = refl
  arcs-back s (m ∷ ms) h = rw (arc-back _ h.0, arcs-back s ms h.1)

  -- the arcs of one configuration
  one-listed : (s : ℕ) (ms : List Move) (n : ℕ) → Each (PlainFits 256 255) (plain_from all s ms) → map entry (count_from n (length (plain_from all s ms))) ≡ map listed (plain_from all s ms)
      → map (λ i. plain_listed s (entry i)) (count_from n (length (plain_from all s ms))) ≡ plain_from all s ms
  one-listed s ms n h e =
      let l = plain_from all s ms in
      sym (map-map (plain_listed s) entry (count_from n (length l))) ∙ ap (map (plain_listed s)) e ∙ map-map (plain_listed s) listed l ∙ arcs-back s ms h

  -- those of the configurations cs, the first of which has the number i and its first arc the number n
  many-listed : (i : ℕ) (cs : List Configuration) (n : ℕ) → Each (PlainFits 256 255) (plain_all x all i cs) → map entry (count_from n (length (plain_all x all i cs))) ≡ map listed (plain_all x all i cs)
      → ((s : ℕ) → s < length cs → start_at w base (i + s) ≡ n + length (plain_all x all i (take s cs)))
      → ((s : ℕ) → s < length cs → end_at w base block.count block.plain (i + s) ≡ n + length (plain_all x all i (take (suc s) cs)))
      → plains_of_many w block i (length cs) ≡ plain_all x all i cs
  unfolding plain_all plains_of_many plains_between plain_start plain_end count_from flat_map
  many-listed i [] n h e starts ends = refl
  many-listed i (c ∷ cs) n h e starts ends =
      let l = plain_from all i (successors x c) in
      let r = plain_all x all (suc i) cs in
      let q = counted-split entry listed l r n e in
      let f = each-split (PlainFits 256 255) l r h in
      let a : start_at w base i ≡ n = rw (add-zero i, add-zero n) at (starts 0 (omega arith)) in
      let b : end_at w base block.count block.plain i ≡ n + length l = rw (add-zero i, append-nil) at (ends 0 (omega arith)) in
      let d : n + length l - n ≡ length l = omega arith in
      let one : plains_leaving w block i ≡ l = rw (a, b, d) (one-listed i (successors x c) n f.0 q.0) in
      let next : (s : ℕ) → i + suc s ≡ suc i + s = λ s. omega arith in
      let more : plains_of_many w block (suc i) (length cs) ≡ r
      = many-listed (suc i) cs (n + length l) f.1 q.1
      (λ s g. rw (next s) at (starts (suc s) (omega arith)) ∙ omega (arith, length-append l (plain_all x all (suc i) (take s cs))))
      (λ s g. rw (next s) at (ends (suc s) (omega arith)) ∙ omega (arith, length-append l (plain_all x all (suc i) (take (suc s) cs)))) in
      ap₂ (λ u v. u ++ v) one more

-- ---- the plain arcs of a block whose walk has ended
-- (the limit L is a variable: the checker would walk as many configurations as a written number says)
module _ (x : Automaton) (formed : WellFormed x) (few_letters : letters x ≤ 64) {L : ℕ} (limit : L ≤ 256) (few : length (configurations x L) ≤ L)
    {w : List ℕ} {block : Block} (many : block.count ≡ length (configurations x L)) (plain-many : block.plain ≡ length (plain_arcs x L)) (fits : block.plain ≤ 2048) (walked : Walked x L w block.base block.count block.plain) where
  abbrev count : ℕ
  count = block.count

  abbrev plain : ℕ
  plain = block.plain

  abbrev at : ℕ
  at = block.base

  start_is : (s : ℕ) → s < count → start_at w at s ≡ start_of x L s
  unfolding start_at
  start_is s h = walked.starts fits s h

  end_is : (s : ℕ) → s < count → end_at w at count plain s ≡ start_of x L (suc s)
  unfolding end_at start_of plain_arcs
  end_is s h = go (dec_lt (s + 1) count)
    where
      go : Dec (s + 1 < count) → end_at w at count plain s ≡ start_of x L (suc s)
      go (yes g) = rw (lt-ltb (s + 1) count g) (start_is (s + 1) g ∙ ap (start_of x L) (add-one s))
      go (no g) = rw (le-ltb (s + 1) count (omega arith)) (plain-many ∙ ap (λ (cs : List Configuration). length (plain_all x (configurations x L) 0 cs)) (sym (take_all (suc s) (configurations x L) (omega arith))))

  -- the plain arcs of a configuration are among all of them
  pub plain_end-few : (s : ℕ) → s < block.count → plain_end w block s ≤ 2048
  unfolding start_of plain_arcs plain_end
  plain_end-few s h = rw (end_is s h) (omega (arith, plain-many, before-le x (configurations x L) 0 (configurations x L) (suc s)))

  small : Each (PlainFits 256 255) (plain_arcs x L)
  small = mem_each (plain_arcs x L) (λ a m. let f = plain-fit x formed L few a m in record { source = omega (arith, f.source); lettered = λ l e. omega (arith, f.lettered l e); target = omega (arith, f.target) })

  -- THE LAW. What is listed are the plain arcs, in their order
  plains-listed : plains_of_many w block 0 count ≡ plain_arcs x L
  unfolding plain_arcs start_of fields_of
  plains-listed =
      let all = configurations x L in
      let z : (s : ℕ) → 0 + s ≡ s = λ s. omega arith in
      let e : map (λ i. field w (arcs_at at) i) (count_from 0 (length (plain_arcs x L))) ≡ map listed (plain_arcs x L) = rw (← plain-many) (walked.arcs fits) in
      ap (plains_of_many w block 0) many
      ∙ many-listed x all w block 0 all 0 small e
      (λ s h. rw (z s) (start_is s (omega arith)) ∙ sym (z _))
      (λ s h. rw (z s) (end_is s (omega arith)) ∙ sym (z _))

-- ---- an open file
module _ {file : List ℕ} {c : Counts} {w : List ℕ} {block : Block} (h : Holds file c w block) where
  abbrev y : Automaton
  y = automaton_of file

  formed : WellFormed y
  formed = valid-well_formed file c h.valid

  few_letters : letters y ≤ 64
  few_letters = omega (arith, ap (λ (d : Counts). d.letters) (valid-sizes file c h.valid), (valid-ranges file c h.valid).letters)

  -- the plain arcs, in their order
  module _ (fits : block.plain ≤ 2048) where
    pub holds-plains : plains_of_many w block 0 block.count ≡ plain_arcs (automaton_of file) 256
    holds-plains = plains-listed y formed few_letters (omega arith) (holds-few h) (holds-count h) (holds_plain h) fits h.explored.block

    pub holds-end : (s : ℕ) → s < block.count → plain_end w block s ≤ 2048
    holds-end = plain_end-few y formed few_letters (omega arith) (holds-few h) (holds-count h) (holds_plain h) fits h.explored.block
