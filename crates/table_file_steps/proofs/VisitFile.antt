-- VisitFile: the arcs in the file that pass from a configuration join the sets of their letters, one after the other along a chain.
use mathlib.Core.Path.{◌∙◌, ◌≡◌, ap, refl, subst, sym}
use mathlib.Core.Logic.{◌↔◌, ◌⊎◌, inl, inr, ⊎_elim}
use mathlib.Core.Bool.{Bool, ◌&&◌, ◌||◌, cond, false, true}
use mathlib.Core.List.Memᴰ
use mathlib.Core.List.{List, Memᴰ, []}
use mathlib.Core.Option.{Option, some-injective, none, some}
use Prim.Native.Nat.{◌%◌, ◌*◌, ◌+◌, ◌/◌, ◌<◌, ◌^◌, ◌≤◌, ℕ}
use native.Mathlib.Omega.{arith}
use borrow.Author.Tests.{ne_eqb}
use lib.Dec.{T, eqb, eqb→eq}
use lib.ListN.{drop, get_or}
use Rattle.automata.specs.Lists.{collect, prepend}
use Rattle.automata.proofs.Laws.{and-iff, eqb-iff, or_iff}
use Rattle.table_operations.specs.Arcs.{ArcAt, Indexed, Linked, Walkable, place_of}
use Rattle.word_layout.specs.Layout.{arc_heads, arc_nexts, block_end, configs, map_end, offsets}
use Rattle.table_operations.specs.Packed.{Hop, hop, hop_with, hops, perform_packed}
use Rattle.std.specs.Prelude as code
use Rattle.std.specs.Prelude.{Some, None}
use Rattle.table_operations.proofs.Laws.{entry_at, hop-at, hops-chosen, hops_of, state_of}
use Rattle.table_configurations.proofs.Laws.{configured-kept}
use Rattle.format.specs.Decoding.{letter_of}
use Rattle.file_fields.specs.Parts.{first_arc}
use Rattle.file_fields.specs.declared.Counts.{Counts}
use Rattle.word_fields.specs.Chains.{Found, WordAt, last}
use Rattle.word_fields.specs.Fields.{field}
use Rattle.word_fields.specs.Frame.{Kept}
use Rattle.word_fields.proofs.Laws.{OnChain, chosen, chosen-off, chosen_on, field-same, kept_same, kept_then, last-is, off_chain, on_chain}
use Rattle.word_sets.specs.Sets.{in_set}
use Rattle.word_rows.specs.Rows.{related}
use Rattle.word_layout.specs.declared.Block.{Block}
use Rattle.table_file_steps.specs.FileSteps.{Findable, FromFile, Led}
use Rattle.table_sets.specs.Stepping.{Room, set_of}
use Rattle.table_sets.proofs.Laws.{SameBlock, block-kept, related-kept}

-- ---- one arc
-- the arc at a place passes from `own` with letter p and leads to j
pub record Passes (file : List ℕ) (at own : ℕ) (w : List ℕ) (block : Block) (p j : ℕ) : Type 0 where
  pub regs : ℕ
  pub outcome : perform_packed (get_or file (at + 3) 0) (drop (at + 4) file) (own % 2 ^ 32) ≡ Some regs
  pub letter : get_or file (at + 1) 0 ≡ p
  pub to : ℕ
  pub few : to < block.count
  pub is : get_or w (configs + to) 0 ≡ regs + get_or file (at + 2) 0 * 2 ^ 32
  pub leads : T (related w block.base to j)

letter-is : (b p : ℕ) → letter_of b ≡ some p → b ≡ p
unfolding letter_of
letter-is b p e = go (eqb b 255) e
  where
    go : (t : Bool) → cond t none (some b) ≡ some p → b ≡ p
    go true f = cc
    go false f = some-injective b p f

is-letter : (b p : ℕ) → b ≡ p → p < 64 → letter_of b ≡ some p
unfolding letter_of
is-letter b p e h = rw (ne_eqb b 255 (λ q. omega arith)) (ap some e)

module _ (file : List ℕ) (at own : ℕ) (w : List ℕ) (block : Block) where
  Led-passes : (p j : ℕ) → Led w block (prepend (hop (drop at file) own) []) p j → Passes file at own w block p j
  Led-passes p j d = go (perform_packed (get_or file (at + 3) 0) (drop (at + 4) file) (own % 2 ^ 32)) refl (rw (hop-at file at own) at d.among)
    where
      go : (o : code.Option ℕ) → perform_packed (get_or file (at + 3) 0) (drop (at + 4) file) (own % 2 ^ 32) ≡ o
          → Memᴰ d.hop (prepend (hop_with o (letter_of (get_or file (at + 1) 0)) (get_or file (at + 2) 0)) []) → Passes file at own w block p j
      go None e m = absurd (Memᴰ.not-nil m)
      go (Some v) e m = ⊎_elim (λ q. record {
        regs = v;
        outcome = e;
        letter = letter-is (get_or file (at + 1) 0) p (sym (ap (λ (h : Hop). h.letter) q) ∙ d.letter);
        to = d.to;
        few = d.few;
        is = d.is ∙ ap (λ (h : Hop). h.to) q;
        leads = d.leads;
      }) (λ z. absurd (Memᴰ.not-nil z)) (Memᴰ.cases_cons m)

  Passes-led : (p j : ℕ) → p < 64 → Passes file at own w block p j → Led w block (prepend (hop (drop at file) own) []) p j
  Passes-led p j h a = record {
    hop = record { letter = letter_of (get_or file (at + 1) 0); to = a.regs + get_or file (at + 2) 0 * 2 ^ 32 };
    among = rw (hop-at file at own, a.outcome) (Memᴰ.head refl);
    letter = is-letter (get_or file (at + 1) 0) p a.letter h;
    to = a.to;
    few = a.few;
    is = a.is;
    leads = a.leads;
  }

  -- nothing joins where the arc leads nowhere
  pub not_taken : (acc met : ℕ) → ((p j : ℕ) → p < 64 → ¬ Passes file at own w block p j)
      → (p j : ℕ) → p < 64 → T (in_set (set_of w acc met p) j) ↔ (T (in_set (set_of w acc met p) j) ⊎ Led w block (prepend (hop (drop at file) own) []) p j)
  not_taken acc met f p j h = (λ t. inl t, λ s. ⊎_elim (λ t. t) (λ d. absurd (f p j h (Led-passes p j d))) s)

  -- the row of t joins, where the arc leads to t alone
  pub taken : (w' : List ℕ) (acc met met' letter t : ℕ)
      → ((p j : ℕ) → in_set (set_of w' acc met' p) j ≡ (in_set (set_of w acc met p) j || (eqb p letter && related w block.base t j)))
      → ((p j : ℕ) → p < 64 → (T (eqb p letter) × T (related w block.base t j)) ↔ Passes file at own w block p j)
      → (p j : ℕ) → p < 64 → T (in_set (set_of w' acc met' p) j) ↔ (T (in_set (set_of w acc met p) j) ⊎ Led w block (prepend (hop (drop at file) own) []) p j)
  taken w' acc met met' letter t e f p j h = rw (e p j) (
    λ b. ⊎_elim (λ s. inl s) (λ s. inr (Passes-led p j h ((f p j h).0 ((and-iff (eqb p letter) (related w block.base t j)).0 s)))) ((or_iff (in_set (set_of w acc met p) j) (eqb p letter && related w block.base t j)).0 b),
    λ s. (or_iff (in_set (set_of w acc met p) j) (eqb p letter && related w block.base t j)).1
        (⊎_elim (λ b. inl b) (λ d. inr ((and-iff (eqb p letter) (related w block.base t j)).1 ((f p j h).1 (Led-passes p j d)))) s),
  )

  -- the arc leaves `regs`, and the configuration with the word `key` is looked up
  module _ {letter regs key t : ℕ} (el : letter ≡ get_or file (at + 1) 0) (eo : perform_packed (get_or file (at + 3) 0) (drop (at + 4) file) (own % 2 ^ 32) ≡ Some regs)
      (ek : key ≡ regs + get_or file (at + 2) 0 * 2 ^ 32) (found : Found (WordAt w configs key) block.count t) where
    word_at : {p j : ℕ} (a : Passes file at own w block p j) → get_or w (configs + a.to) 0 ≡ key
    word_at a = let q : Some a.regs ≡ Some regs = sym a.outcome ∙ eo in let r : a.regs ≡ regs = cc in a.is ∙ ap (λ (x : ℕ). x + get_or file (at + 2) 0 * 2 ^ 32) r ∙ sym ek

    -- it is there
    pub leads_one : Findable w block.count → t < block.count → (p j : ℕ) → p < 64 → (T (eqb p letter) × T (related w block.base t j)) ↔ Passes file at own w block p j
    leads_one u h p j less = (
      λ x. record { regs = regs; outcome = eo; letter = sym el ∙ sym (eqb→eq p letter x.0); to = t; few = h; is = found.hit h ∙ ek; leads = x.1 },
      λ a. let e : a.to ≡ t = u.apart a.to t a.few h (word_at a ∙ sym (found.hit h)) in
          ((eqb-iff p letter).1 (sym a.letter ∙ sym el), subst (λ (x : ℕ). T (related w block.base x j)) e a.leads),
    )

    -- it is not there
    pub leads-none : block.count ≤ t → (p j : ℕ) → p < 64 → ¬ Passes file at own w block p j
    leads-none h p j less a = found.miss (omega (arith, found.few)) a.to a.few (word_at a)

-- ---- several arcs
Led-split : {w : List ℕ} {block : Block} (o : Option Hop) (rest : List Hop) {p j : ℕ} → Led w block (prepend o rest) p j ↔ (Led w block (prepend o []) p j ⊎ Led w block rest p j)
Led-split {w} {block} none rest = (λ d. inr d, λ s. ⊎_elim (λ d. absurd (Memᴰ.not-nil d.among)) (λ d. d) s)
Led-split {w} {block} (some h) rest {p} {j} = (
  λ d. ⊎_elim (λ (e : d.hop ≡ h). inl (also d (Memᴰ.head e))) (λ m. inr (also d m)) (Memᴰ.cases_cons d.among),
  λ s. ⊎_elim (λ d. also d (⊎_elim (λ e. Memᴰ.head e) (λ m. absurd (Memᴰ.not-nil m)) (Memᴰ.cases_cons d.among))) (λ d. also d (Memᴰ.tail d.among)) s,
)
  where
    also : {hs hs' : List Hop} (d : Led w block hs p j) → Memᴰ d.hop hs' → Led w block hs' p j
    also d m = record { hop = d.hop; among = m; letter = d.letter; to = d.to; few = d.few; is = d.is; leads = d.leads }

-- the building's tables are as they were
pub findable-same : {w w' : List ℕ} {count : ℕ} → count ≤ 256 → ((i : ℕ) → offsets ≤ i → i < map_end → get_or w' i 0 ≡ get_or w i 0) → Findable w count → Findable w' count
findable-same few same f = record {
  configured = configured-kept (λ j x y. same j (omega arith) y) f.configured;
  apart = λ i t h g e. f.apart i t h g (sym (same (configs + i) (omega arith) (omega arith)) ∙ e ∙ same (configs + t) (omega arith) (omega arith));
}

-- ---- other words change: neither the building's tables nor the block
pub record SameMap (block : Block) (w w' : List ℕ) : Type 0 where
  pub few : block.count ≤ 256
  pub rows : SameBlock block.base w w'
  pub words : (i : ℕ) → offsets ≤ i → i < map_end → get_or w' i 0 ≡ get_or w i 0

-- what was written stands below the tables or above them, and below the block or above it
pub map-kept : (block : Block) {a b : ℕ} {w w' : List ℕ} → (b ≤ offsets) ⊎ (map_end ≤ a) → (b ≤ block.base) ⊎ (block_end block.base ≤ a) → block.count ≤ 256 → Kept a b w w' → SameMap block w w'
map-kept block beside apart few k = record { few = few; rows = block-kept k apart; words = λ i g l. ⊎_elim (λ h. k.above i (omega arith)) (λ h. k.below i (omega arith)) beside }

module _ {w w' : List ℕ} {block : Block} (s : SameMap block w w') where
  pub Led-kept : (hs : List Hop) (p j : ℕ) → Led w' block hs p j ↔ Led w block hs p j
  Led-kept hs p j = (
    λ d. let h = d.few in
        let g = s.few in
        record {
          hop = d.hop;
          among = d.among;
          letter = d.letter;
          to = d.to;
          few = d.few;
          is = sym (s.words (configs + d.to) (omega arith) (omega arith)) ∙ d.is;
          leads = subst T (related-kept s.rows d.to j (omega arith)) d.leads;
        },
    λ d. let h = d.few in
        let g = s.few in
        record {
          hop = d.hop;
          among = d.among;
          letter = d.letter;
          to = d.to;
          few = d.few;
          is = s.words (configs + d.to) (omega arith) (omega arith) ∙ d.is;
          leads = subst T (sym (related-kept s.rows d.to j (omega arith))) d.leads;
        },
  )

  pub from-kept : (file : List ℕ) (n : Counts) (c : ℕ) → c < block.count → (p j : ℕ) → FromFile file n w' block c p j ↔ FromFile file n w block c p j
  from-kept file n c h p j = rw (s.words (configs + c) (omega arith) (omega (arith, s.few))) (Led-kept (hops n.arcs (drop (first_arc n) file) (get_or w (configs + c) 0)) p j)

  pub findable-kept : Findable w block.count → Findable w' block.count
  findable-kept = findable-same s.few s.words

-- ---- along the chain of the state of `own`: what has joined, with the arcs that are left, gives the whole
pub record Following (file w₀ : List ℕ) (n : Counts) (block : Block) (acc own met₀ : ℕ) (w : List ℕ) (met j : ℕ) : Type 0 where
  pub kept : Kept acc (acc + 256) w₀ w
  pub upto : ℕ
  pub few : upto ≤ n.arcs
  pub here : j ≡ last (state_of file w₀) (own / 2 ^ 32) upto
  pub sets : (p q : ℕ) → p < 64 → (T (in_set (set_of w acc met p) q) ⊎ Led w₀ block (hops_of file w₀ own (chosen (state_of file w₀) (own / 2 ^ 32) upto)) p q)
      ↔ (T (in_set (set_of w₀ acc met₀ p) q) ⊎ Led w₀ block (hops n.arcs (drop (first_arc n) file) own) p q)

pub Following-start : {file w₀ : List ℕ} {n : Counts} (block : Block) (acc own met : ℕ) {j : ℕ} → Indexed n file w₀ → Linked n file w₀ → own / 2 ^ 32 < 256 → j ≡ field w₀ arc_heads (own / 2 ^ 32)
    → Following file w₀ n block acc own met w₀ met j
Following-start {file} {w₀} {n} block acc own met i l small e = record {
  kept = kept_same acc (acc + 256) w₀;
  upto = n.arcs;
  few = omega arith;
  here = e ∙ l.head (own / 2 ^ 32) small;
  sets = λ p q h. rw (hops-chosen n file w₀ own i) (λ s. s, λ s. s);
}

module _ {file w₀ : List ℕ} {n : Counts} {block : Block} {acc own met₀ : ℕ} {w : List ℕ} {met j : ℕ} (g : Following file w₀ n block acc own met₀ w met j)
    (y : Walkable n file) (i : Indexed n file w₀) (l : Linked n file w₀) (high : map_end ≤ acc) where
  -- ---- a turn at entry j, whose arc is at `at`
  module _ (less : j < n.arcs) {at : ℕ} (is : at ≡ place_of w j) where
    on : OnChain (state_of file w₀) w₀ arc_nexts (own / 2 ^ 32) g.upto j
    on = on_chain l (omega (arith, y.lies.few)) (own / 2 ^ 32) g.few g.here less

    place : at ≡ place_of w₀ j
    place = is ∙ field-same w₀ w offsets j (g.kept.below (offsets + j / 4) (omega (arith, y.lies.few)))

    -- the arc stands whole in the file
    pub arc-here : ArcAt file at
    arc-here = rw place (entry_at w₀ y i j less)

    unroll : hops_of file w₀ own (chosen (state_of file w₀) (own / 2 ^ 32) g.upto) ≡ prepend (hop (drop at file) own) (hops_of file w₀ own (chosen (state_of file w₀) (own / 2 ^ 32) j))
    unfolding collect
    unroll = rw (chosen_on (state_of file w₀) (own / 2 ^ 32) g.upto j on.below on.keyed on.none, ← place)

    -- the next entry is j'
    module _ {j' : ℕ} (next : j' ≡ field w arc_nexts j) where
      onward : j' ≡ last (state_of file w₀) (own / 2 ^ 32) j
      onward = next ∙ field-same w₀ w arc_nexts j (g.kept.below (arc_nexts + j / 4) (omega (arith, y.lies.few))) ∙ on.onward

      pub Following-less : (j' + 1) % 65536 < (j + 1) % 65536
      Following-less = ⊎_elim (λ d. omega (arith, onward, d, y.lies.few)) (λ d. omega (arith, onward, d.0, y.lies.few)) (last-is (state_of file w₀) (own / 2 ^ 32) j)

      -- the arc has been taken
      pub Following-more : {w' : List ℕ} (met' : ℕ) → Kept acc (acc + 256) w w' → Room w₀ block.base acc → block.count ≤ 256
          → ((p q : ℕ) → p < 64 → T (in_set (set_of w' acc met' p) q) ↔ (T (in_set (set_of w acc met p) q) ⊎ Led w block (prepend (hop (drop at file) own) []) p q))
          → Following file w₀ n block acc own met₀ w' met' j'
      Following-more {w'} met' kk r few f = record {
        kept = kept_then g.kept kk;
        upto = j;
        few = omega arith;
        here = onward;
        sets = λ p q h. (λ s. (g.sets p q h).0 (to p q h s), λ s. from p q h ((g.sets p q h).1 s));
      }
        where
          rest : List Hop
          rest = hops_of file w₀ own (chosen (state_of file w₀) (own / 2 ^ 32) j)

          same : SameMap block w₀ w
          same = map-kept block (inr high) r.apart few g.kept

          to : (p q : ℕ) → p < 64 → T (in_set (set_of w' acc met' p) q) ⊎ Led w₀ block rest p q
              → T (in_set (set_of w acc met p) q) ⊎ Led w₀ block (hops_of file w₀ own (chosen (state_of file w₀) (own / 2 ^ 32) g.upto)) p q
          to p q h (inl t) = ⊎_elim (λ b. inl b) (λ d. inr (rw unroll ((Led-split (hop (drop at file) own) rest).1 (inl ((Led-kept same (prepend (hop (drop at file) own) []) p q).0 d))))) ((f p q h).0 t)
          to p q h (inr d) = inr (rw unroll ((Led-split (hop (drop at file) own) rest).1 (inr d)))

          from : (p q : ℕ) → p < 64 → T (in_set (set_of w acc met p) q) ⊎ Led w₀ block (hops_of file w₀ own (chosen (state_of file w₀) (own / 2 ^ 32) g.upto)) p q
              → T (in_set (set_of w' acc met' p) q) ⊎ Led w₀ block rest p q
          from p q h (inl t) = inl ((f p q h).1 (inl t))
          from p q h (inr d) = ⊎_elim (λ a. inl ((f p q h).1 (inr ((Led-kept same (prepend (hop (drop at file) own) []) p q).1 a)))) (λ a. inr a) ((Led-split (hop (drop at file) own) rest).0 (rw unroll at d))

  -- ---- the end of the chain
  pub Following-end : n.arcs ≤ j → (p q : ℕ) → p < 64 → T (in_set (set_of w acc met p) q) ↔ (T (in_set (set_of w₀ acc met₀ p) q) ⊎ Led w₀ block (hops n.arcs (drop (first_arc n) file) own) p q)
  unfolding collect
  Following-end h p q m =
      let e = chosen-off (state_of file w₀) (own / 2 ^ 32) g.upto (off_chain (state_of file w₀) (own / 2 ^ 32) g.few g.here h) in
      let s = rw e at (g.sets p q m) in
      (λ t. s.0 (inl t), λ u. ⊎_elim (λ t. t) (λ d. absurd (Memᴰ.not-nil d.among)) (s.1 u))
