-- LinkLetters: the listed arcs join their chains and their sources the sets of their letters, one arc after the other.
use mathlib.Core.Path.{◌∙◌, ◌≡◌, ap, ap₂, refl, subst, sym}
use mathlib.Core.Logic.{inl, inr}
use mathlib.Core.Bool.{◌||◌, cond}
use mathlib.Core.List.{List}
use Prim.Native.Nat.{◌*◌, ◌+◌, ◌/◌, ◌<◌, ◌≤◌, ℕ}
use native.Mathlib.Decide.{ℕ_discrete}
use native.Mathlib.Omega.{arith}
use borrow.Author.Tests.{eq-eqb, le-ltb, lt-ltb}
use lib.Dec.{T, eqb, ltb}
use lib.ListN.{length}
use Rattle.automata.proofs.Laws.{or_iff}
use Rattle.word_layout.specs.Layout.{block_end, byte_letters, letter_heads, letter_heads_end, letter_nexts, letter_sources, lettered_end}
use Rattle.word_fields.specs.Chains.{Chain, no_entry}
use Rattle.word_fields.specs.Fields.{Apart, field}
use Rattle.word_fields.specs.Frame.{Beside, Kept, KeptBut}
use Rattle.word_fields.proofs.Laws.{but_high, but_low, but_same, but_then, chain-kept, chain-start, field-same}
use Rattle.word_rows.specs.Rows.{related}
use Rattle.word_rows.proofs.Laws.{row_other}
use Rattle.table_sets.specs.Stepping.{BySource, end_at, plain_letter_at, start_at}
use Rattle.table_sets.proofs.Laws.{SameBlock, block-but, end_below, end_kept, starts-kept}
use Rattle.word_layout.specs.declared.Block.{Block}
use Rattle.table_letters.specs.Lettered.{Lettered, Linked, arc_key, key_of, row_of, source_of}
use Rattle.table_letters.proofs.LetteredFrame.{arc_key-kept, letter-kept, noted-kept, row_below, source-kept}
use Rattle.table_letters.proofs.Sources.{source_is}

-- w' is w but for the chains and the sets
abbrev pub Beyond : List ℕ → List ℕ → Type 0
Beyond w w' = KeptBut letter_heads letter_heads_end letter_nexts byte_letters w w'

pub beyond-block : {w w' : List ℕ} (base : ℕ) → letter_heads_end ≤ base → block_end base ≤ letter_nexts → Beyond w w' → SameBlock base w w'
beyond-block base h g k = block-but k h (inl g)

-- a member of a row stays where another joins
still : {w w' : List ℕ} (base i k : ℕ) → Kept (base + 4 * i) (base + 4 * i + 4) w w' → ((j : ℕ) → related w' base i j ≡ (eqb j k || related w base i j)) → (p j : ℕ) → T (related w base p j) → T (related w' base p j)
still {w} {w'} base i k kept set p j t = go (ℕ_discrete p i)
  where
    go : Dec (p ≡ i) → T (related w' base p j)
    go (yes e) = rw (e, set j) ((or_iff (eqb j k) (related w base i j)).1 (inr (rw (← e) t)))
    go (no n) = unfold related in rw (row_other base i p kept n) t

-- ---- arc k joins: first its chain (w to u), then its source the set of its letter (u to w')
module _ {letters : ℕ} {w u w' : List ℕ} (block : Block) {k row c : ℕ} (small : letters ≤ 64) (low : letter_heads_end ≤ block.base) (high : block_end block.base ≤ letter_nexts) (configurations : block.count ≤ 256) (less : c < 256) (few : k < 2048)
    (is_row : row ≡ row_of letters (plain_letter_at w block.base k)) (source : source_of w block k ≡ c)
    (pushed : Beside (letter_heads + (256 * row + c) / 4) (letter_nexts + k / 4) w u)
    (joins : (key : ℕ → ℕ) (slots : ℕ) → Chain key w letter_heads letter_nexts slots k → Apart letter_heads slots letter_nexts (k + 1) → 256 * row + c < slots → key k ≡ 256 * row + c → Chain key u letter_heads letter_nexts slots (k + 1))
    (added : Kept (letter_sources + 4 * row) (letter_sources + 4 * row + 4) u w') (set : (j : ℕ) → related w' letter_sources row j ≡ (eqb j c || related u letter_sources row j)) where
  row_small : row ≤ letters
  row_small = omega (arith, is_row, row_below letters (plain_letter_at w block.base k))

  first : Beyond w u
  first = record {
    long = pushed.long;
    below = λ j h. absurd (omega arith);
    between = λ j h g. pushed.rest j (λ e. omega (arith, row_small)) (λ e. omega arith);
    above = λ j h. pushed.rest j (λ e. omega (arith, row_small)) (λ e. omega arith);
  }

  second : Beyond u w'
  second = but_high (omega arith) (omega arith) (omega (arith, row_small)) added

  pub joined-beyond : Beyond w w'
  joined-beyond = but_then first second

  b : SameBlock block.base w w'
  b = beyond-block block.base low high joined-beyond

  keyed : arc_key letters w block k ≡ 256 * row + c
  unfolding arc_key
  keyed = ap₂ (λ (r s : ℕ). key_of r s) (sym is_row) source

  pub linked-more : Linked letters w block k → Linked letters w' block (k + 1)
  linked-more l = record {
    chain = chain-kept (λ i h. sym (arc_key-kept block b letters configurations i (omega arith))) (λ s h. added.below (letter_heads + s / 4) (omega arith)) (λ i h. added.below (letter_nexts + i / 4) (omega arith))
        (joins (arc_key letters w block) (256 * letters + 256) l.chain (λ i j p q r. omega arith) (omega (arith, row_small)) keyed);
    noted = λ i h. rw (letter-kept block b i (omega arith), source-kept block b configurations i) (go i h (ℕ_discrete i k));
  }
    where
      go : (i : ℕ) → i < k + 1 → Dec (i ≡ k) → T (related w' letter_sources (row_of letters (plain_letter_at w block.base i)) (source_of w block i))
      go i h (yes e) = rw (e, ← is_row, source, set c) ((or_iff (eqb c c) (related u letter_sources row c)).1 (inl (rw (eq-eqb c c refl) tt)))
      go i h (no n) =
          let r : ℕ = row_of letters (plain_letter_at w block.base i) in
          still letter_sources row c added set r (source_of w block i)
          (rw (noted-kept w u pushed.long (λ j x y. pushed.rest j (λ e. omega (arith, row_small)) (λ e. omega arith)) r (source_of w block i) (omega (arith, row_below letters (plain_letter_at w block.base i))))
          (l.noted i (omega arith)))

-- ---- the arcs of one configuration: those from `from` to before k have joined
pub record LinkingOne (letters : ℕ) (w₀ : List ℕ) (block : Block) (from to : ℕ) (w : List ℕ) (k : ℕ) : Type 0 where
  pub low : from ≤ k
  pub high : k ≤ to
  pub kept : Beyond w₀ w
  pub linked : Linked letters w₀ block from → Linked letters w block k

pub LinkingOne-start : (letters : ℕ) (w : List ℕ) (block : Block) (from to : ℕ) → from ≤ to → LinkingOne letters w block from to w from
LinkingOne-start letters w block from to h = record { low = omega arith; high = h; kept = but_same letter_heads letter_heads_end letter_nexts byte_letters w; linked = λ l. l }

pub LinkingOne-more : {letters : ℕ} {w₀ w u w' : List ℕ} {block : Block} {from to k row c : ℕ} (letter : ℕ) → letters ≤ 64 → letter_heads_end ≤ block.base → block_end block.base ≤ letter_nexts → block.count ≤ 256 → c < 256 → to ≤ 2048 → k < to
    → ((i : ℕ) → from ≤ i → i < to → source_of w₀ block i ≡ c) → row ≡ row_of letters letter → letter ≡ plain_letter_at w block.base k
    → Beside (letter_heads + (256 * row + c) / 4) (letter_nexts + k / 4) w u
    → ((key : ℕ → ℕ) (slots : ℕ) → Chain key w letter_heads letter_nexts slots k → Apart letter_heads slots letter_nexts (k + 1) → 256 * row + c < slots → key k ≡ 256 * row + c → Chain key u letter_heads letter_nexts slots (k + 1))
    → Kept (letter_sources + 4 * row) (letter_sources + 4 * row + 4) u w' → ((j : ℕ) → related w' letter_sources row j ≡ (eqb j c || related u letter_sources row j))
    → LinkingOne letters w₀ block from to w k → LinkingOne letters w₀ block from to w' (k + 1)
LinkingOne-more {letters} {w₀} {w} {u} {w'} {block} {from} {to} {k} {row} {c} letter small low high configurations less few h sources er el pushed joins added set v =
    let is_row : row ≡ row_of letters (plain_letter_at w block.base k) = er ∙ ap (row_of letters) el in
    let source : source_of w block k ≡ c = source-kept block (beyond-block block.base low high v.kept) configurations k ∙ sources k v.low h in
    record {
      low = omega (arith, v.low);
      high = omega arith;
      kept = but_then v.kept (joined-beyond block small low high configurations less (omega arith) is_row source pushed joins added set);
      linked = λ l. linked-more block small low high configurations less (omega arith) is_row source pushed joins added set (v.linked l);
    }

pub LinkingOne-end : {letters : ℕ} {w₀ w : List ℕ} {block : Block} {from to k : ℕ} → to ≤ k → LinkingOne letters w₀ block from to w k → Linked letters w₀ block from → Linked letters w block to
LinkingOne-end {letters} {w = w} {block = block} h v l = subst (Linked letters w block) (omega (arith, v.high)) (v.linked l)

-- ---- of all: where the arcs of configuration c start, or behind the last arc
unfoldable pub reach : List ℕ → Block → (c : ℕ) → ℕ
reach w block c = cond (ltb c block.count) (start_at w block.base c) block.plain

-- the arcs of the first c configurations have joined
pub record Linking (letters : ℕ) (w₀ : List ℕ) (block : Block) (c : ℕ) (w : List ℕ) : Type 0 where
  pub high : c ≤ block.count
  pub kept : Beyond w₀ w
  pub listed : BySource w block
  pub linked : Linked letters w block (reach w block c)

-- the heads are filled, and then the sets cleared
pub cleared-beyond : {letters : ℕ} {w u w' : List ℕ} → letters ≤ 64 → Kept letter_heads (letter_heads + (64 * letters + 64)) w u → Kept letter_sources (letter_sources + 4 * (letters + 1)) u w' → Beyond w w'
cleared-beyond small filled cleared = but_then (but_low (omega arith) (omega arith) (omega arith) filled) (but_high (omega arith) (omega arith) (omega arith) cleared)

pub Linking-start : {w u w' : List ℕ} {block : Block} (letters : ℕ) → letters ≤ 64 → letter_heads_end ≤ block.base → block_end block.base ≤ letter_nexts → 0 < block.count → BySource w block → Kept letter_heads (letter_heads + (64 * letters + 64)) w u
    → ((k : ℕ) → k < 4 * (64 * letters + 64) → field u letter_heads k ≡ no_entry) → Kept letter_sources (letter_sources + 4 * (letters + 1)) u w' → Linking letters w' block 0 w'
unfolding reach
Linking-start {w} {u} {w'} {block} letters small low high some s filled none cleared = record {
  high = omega arith;
  kept = but_same letter_heads letter_heads_end letter_nexts byte_letters w';
  listed = listed;
  linked = rw (lt-ltb 0 block.count some, listed.zero some) (record {
    chain = chain-start (arc_key letters w' block) w' letter_heads letter_nexts (256 * letters + 256) (λ i h. field-same u w' letter_heads i (cleared.below (letter_heads + i / 4) (omega arith)) ∙ none i (omega arith));
    noted = λ k h. absurd (omega arith);
  });
}
  where
    listed : BySource w' block
    listed = starts-kept (beyond-block block.base low high (cleared-beyond small filled cleared)) s

module _ {letters : ℕ} {w₀ w : List ℕ} {block : Block} {c from to : ℕ} (low : letter_heads_end ≤ block.base) (high : block_end block.base ≤ letter_nexts) (h : c < block.count) (v : Linking letters w₀ block c w)
    (ef : from ≡ start_at w block.base c) (et : to ≡ end_at w block.base block.count block.plain c) where
  pub Linking-range : (from ≤ to) × (to ≤ 2048)
  Linking-range = (omega (arith, ef, et, v.listed.rises c h), omega (arith, et, end_below c v.listed, v.listed.less))

  pub Linking-sources : (k : ℕ) → from ≤ k → k < to → source_of w block k ≡ c
  Linking-sources k l g = (source_is v.listed c k h (omega (arith, ef)) (omega (arith, et))).1

  here : reach w block c ≡ from
  unfolding reach
  here = rw (lt-ltb c block.count h) (sym ef)

  after : {w' : List ℕ} → SameBlock block.base w w' → to ≡ reach w' block (c + 1)
  unfolding reach end_at
  after b = et ∙ sym (end_kept b block.count block.plain c v.listed.few)

  pub Linking-more : {w' : List ℕ} → Beyond w w' → (Linked letters w block from → Linked letters w' block to) → Linking letters w₀ block (c + 1) w'
  Linking-more {w'} k f =
      let b = beyond-block block.base low high k in
      record {
        high = omega arith;
        kept = but_then v.kept k;
        listed = starts-kept b v.listed;
        linked = subst (Linked letters w' block) (after b) (f (subst (Linked letters w block) here v.linked));
      }

-- THE LAW. All arcs have joined.
pub Linking-end : {letters c : ℕ} {w₀ w : List ℕ} {block : Block} → letters ≤ 64 → letter_heads_end ≤ block.base → block_end block.base ≤ letter_nexts → lettered_end ≤ length w → block.count ≤ c → Linking letters w₀ block c w → Lettered letters w block
unfolding reach
Linking-end {letters} {c} {w = w} {block = block} small low high room h v =
    record {
      small = small;
      few = v.listed.less;
      below = low;
      above = high;
      room = room;
      listed = v.listed;
      linked = rw (le-ltb c block.count h) at v.linked;
    }
