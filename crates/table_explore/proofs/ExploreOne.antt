-- ExploreOne: the walk along the arcs of one configuration. What is left of the chain gives the whole.
use mathlib.Core.Path.{◌∙◌, ◌≡◌, ap, refl}
use mathlib.Core.Logic.{⊎_elim}
use Prim.Native.Nat.{◌%◌, ◌*◌, ◌+◌, ◌/◌, ◌<◌, ◌^◌, ◌≤◌, ℕ}
use lib.Dec.{eqb}
use lib.ListN.{drop, get_or, length}
use mathlib.Core.List.{List, [], ◌++◌, ◌∷◌, append_assoc, append-nil}
use native.Mathlib.Omega.{arith}
use Rattle.word_fields.specs.Frame.{KeptBut}
use Rattle.automata.specs.Exploration.{add, add_all, number}
use Rattle.automata.specs.Lists.{collect, prepend}
use Rattle.automata.specs.Live.{PlainArc}
use Rattle.table_operations.specs.Arcs.{ArcAt, Indexed, Linked, Walkable, place_of}
use Rattle.word_layout.specs.Layout.{arc_heads, arc_nexts, configs, map_end, offsets, starts_at}
use Rattle.table_operations.specs.Packed.{Hop, hop_with, hops_in, perform_packed, tos}
use Rattle.table_configurations.specs.Known.{plain_arc, plains_of}
use Rattle.table_configurations.specs.Tables.{Configured, Counted, Met, MetAll, Tabled}
use Rattle.std.specs.Prelude.{Option, Some, None}
use Rattle.format.specs.Decoding.{letter_of}
use Rattle.file_fields.specs.declared.Counts.{Counts}
use Rattle.word_fields.specs.Chains.{last}
use Rattle.word_fields.specs.Fields.{field}
use Rattle.automata.proofs.Laws.{add_all-length}
use Rattle.table_operations.proofs.Laws.{entry_at, hop-at, hops-chosen, hops_of, state_of}
use Rattle.word_fields.proofs.Laws.{OnChain, but_same, but_then, chosen, chosen-off, chosen_on, field-same, last-is, off_chain, on_chain}

-- with the hops that are left the tables come to be those of `whole` and `list`
pub record Left (w : List ℕ) (base count plain c : ℕ) (rest : List Hop) (whole : List ℕ) (list : List PlainArc) : Type 0 where
  pub all : List ℕ
  pub plains : List PlainArc
  pub tabled : Tabled w base count plain all plains
  pub makes : add_all eqb all (tos rest) ≡ whole
  pub lists : plains ++ plains_of c all rest ≡ list

left-start : {w : List ℕ} {base count plain : ℕ} (c : ℕ) (rest : List Hop) {all : List ℕ} {plains : List PlainArc} → Tabled w base count plain all plains
    → Left w base count plain c rest (add_all eqb all (tos rest)) (plains ++ plains_of c all rest)
left-start c rest {all} {plains} t = record { all = all; plains = plains; tabled = t; makes = refl; lists = refl }

-- the next hop is taken
left-more : {w w'' : List ℕ} {base count plain count' plain' c : ℕ} {h : Hop} {rest : List Hop} {whole : List ℕ} {list : List PlainArc} → Met w w'' base count plain c h.letter h.to (Some (record { count = count'; plain = plain' }))
    → Left w base count plain c (h ∷ rest) whole list → Left w'' base count' plain' c rest whole list
unfolding add_all plains_of
left-more {c = c} {h = h} {rest = rest} met l = record {
  all = add eqb l.all h.to;
  plains = l.plains ++ plain_arc c h.letter (number eqb h.to l.all) ∷ [];
  tabled = met l.all l.plains l.tabled;
  makes = l.makes;
  lists = append_assoc l.plains (plain_arc c h.letter (number eqb h.to l.all) ∷ []) (plains_of c (add eqb l.all h.to) rest) ∙ l.lists;
}

left_over : {w : List ℕ} (w'' : List ℕ) {base count plain c : ℕ} {h : Hop} {rest : List Hop} {whole : List ℕ} {list : List PlainArc}
    → Met w w'' base count plain c h.letter h.to None → Left w base count plain c (h ∷ rest) whole list → 256 < length whole
unfolding add_all
left_over w'' {h = h} {rest = rest} met l = omega (arith, met l.all l.plains l.tabled, add_all-length eqb (add eqb l.all h.to) (tos rest), ap length l.makes)

left_end : {w : List ℕ} {base count plain c : ℕ} {whole : List ℕ} {list : List PlainArc} → Left w base count plain c [] whole list → Tabled w base count plain whole list
unfolding add_all plains_of
left_end {w} {base} {count} {plain} l = rw (← l.makes, ← l.lists, append-nil l.plains) l.tabled

-- ---- the arcs of configuration c, which is `own`, from the words w₀ on; entry j of their chain is next
pub record Going (file w₀ : List ℕ) (n : Counts) (base c count₀ plain₀ own : ℕ) (w : List ℕ) (count plain j : ℕ) : Type 0 where
  pub kept : KeptBut configs map_end base (starts_at base) w₀ w
  pub more : count₀ ≤ count
  pub configured : Configured w count
  pub upto : ℕ
  pub few : upto ≤ n.arcs
  pub here : j ≡ last (state_of file w₀) (own / 2 ^ 32) upto
  pub room : plain + upto ≤ plain₀ + n.arcs
  pub left : (all : List ℕ) (plains : List PlainArc) → Tabled w₀ base count₀ plain₀ all plains
      → Left w base count plain c (hops_of file w₀ own (chosen (state_of file w₀) (own / 2 ^ 32) upto)) (add_all eqb all (tos (hops_in n file own))) (plains ++ plains_of c all (hops_in n file own))

module _ {file w₀ : List ℕ} {n : Counts} (base c count₀ plain₀ own : ℕ) where
  pub going_start : {j : ℕ} → Indexed n file w₀ → Linked n file w₀ → Configured w₀ count₀ → own / 2 ^ 32 < 256 → j ≡ field w₀ arc_heads (own / 2 ^ 32)
      → Going file w₀ n base c count₀ plain₀ own w₀ count₀ plain₀ j
  going_start i l k small e = record {
    kept = but_same configs map_end base (starts_at base) w₀;
    more = omega arith;
    configured = k;
    upto = n.arcs;
    few = omega arith;
    here = e ∙ l.head (own / 2 ^ 32) small;
    room = omega arith;
    left = λ all plains t. rw (← hops-chosen n file w₀ own i) (left-start c (hops_in n file own) t);
  }

-- ---- a turn at entry j: its arc is at `at`, and the entry after it is j'
pub record Turn (file w₀ : List ℕ) (n : Counts) (base c count₀ plain₀ own : ℕ) (w : List ℕ) (count plain j at j' : ℕ) : Type 0 where
  pub walkable : Walkable n file
  pub indexed : Indexed n file w₀
  pub linked : Linked n file w₀
  pub going : Going file w₀ n base c count₀ plain₀ own w count plain j
  pub less : j < n.arcs
  pub is : at ≡ place_of w j
  pub next : j' ≡ field w arc_nexts j

module _ {file w₀ : List ℕ} {n : Counts} {base c count₀ plain₀ own : ℕ} {w : List ℕ} {count plain j at j' : ℕ} (t : Turn file w₀ n base c count₀ plain₀ own w count plain j at j') where
  few : j < 2048
  few = omega (arith, t.less, t.walkable.lies.few)

  on : OnChain (state_of file w₀) w₀ arc_nexts (own / 2 ^ 32) t.going.upto j
  on = on_chain t.linked (omega (arith, t.walkable.lies.few)) (own / 2 ^ 32) t.going.few t.going.here t.less

  place : at ≡ place_of w₀ j
  place = t.is ∙ field-same w₀ w offsets j (t.going.kept.below (offsets + j / 4) (omega (arith, few)))

  -- the arc stands whole in the file
  pub arc-here : ArcAt file at
  arc-here = rw place (entry_at w₀ t.walkable t.indexed j t.less)

  onward : j' ≡ last (state_of file w₀) (own / 2 ^ 32) j
  onward = t.next ∙ field-same w₀ w arc_nexts j (t.going.kept.below (arc_nexts + j / 4) (omega (arith, few))) ∙ on.onward

  pub going_less : (j' + 1) % 65536 < (j + 1) % 65536
  going_less = ⊎_elim (λ d. omega (arith, onward, d, few)) (λ d. omega (arith, onward, d.0, few)) (last-is (state_of file w₀) (own / 2 ^ 32) j)

  -- it has p operations: what they make of the configuration comes first
  module _ {p : ℕ} (size : p ≡ get_or file (at + 3) 0) where
    abbrev outcome : Option ℕ
    outcome = perform_packed p (drop (at + 4) file) (own % 2 ^ 32)

    abbrev rest : List Hop
    rest = hops_of file w₀ own (chosen (state_of file w₀) (own / 2 ^ 32) j)

    unroll : hops_of file w₀ own (chosen (state_of file w₀) (own / 2 ^ 32) t.going.upto) ≡ prepend (hop_with outcome (letter_of (get_or file (at + 1) 0)) (get_or file (at + 2) 0)) rest
    unfolding collect
    unroll = rw (chosen_on (state_of file w₀) (own / 2 ^ 32) t.going.upto j on.below on.keyed on.none, ← place, hop-at file at own, size)

    -- they fail
    pub going-failed : outcome ≡ None → Going file w₀ n base c count₀ plain₀ own w count plain j'
    going-failed f = record {
      kept = t.going.kept;
      more = t.going.more;
      configured = t.going.configured;
      upto = j;
      few = omega (arith, t.less);
      here = onward;
      room = omega (arith, t.going.room, on.below);
      left = λ all plains s. rw (unroll, f) at (t.going.left all plains s);
    }

    -- they leave v, and the hop is taken
    module _ {v : ℕ} (f : outcome ≡ Some v) where
      abbrev taken : Hop
      taken = record { letter = letter_of (get_or file (at + 1) 0); to = v + get_or file (at + 2) 0 * 2 ^ 32 }

      passed : (all : List ℕ) (plains : List PlainArc) → Tabled w₀ base count₀ plain₀ all plains
          → Left w base count plain c (taken ∷ rest) (add_all eqb all (tos (hops_in n file own))) (plains ++ plains_of c all (hops_in n file own))
      passed all plains s = rw (unroll, f) at (t.going.left all plains s)

      pub going-met : {w'' : List ℕ} {count' plain' : ℕ} → KeptBut configs map_end base (starts_at base) w w'' → Counted w'' count (plain + 1) count' plain' → Met w w'' base count plain c taken.letter taken.to (Some (record { count = count'; plain = plain' }))
          → Going file w₀ n base c count₀ plain₀ own w'' count' plain' j'
      going-met b s met = record {
        kept = but_then t.going.kept b;
        more = omega (arith, t.going.more, s.more);
        configured = s.configured;
        upto = j;
        few = omega (arith, t.less);
        here = onward;
        room = omega (arith, t.going.room, on.below, s.few);
        left = λ all plains h. left-more met (passed all plains h);
      }

      -- or there are too many
      pub going-over : (w'' : List ℕ) → Met w w'' base count plain c taken.letter taken.to None → MetAll w₀ w'' base count₀ plain₀ c (hops_in n file own) None
      going-over w'' met all plains h = left_over w'' met (passed all plains h)

-- ---- the end of the chain
pub going_end : {file w₀ : List ℕ} {n : Counts} {base c count₀ plain₀ own : ℕ} {w : List ℕ} {count plain j : ℕ} → Going file w₀ n base c count₀ plain₀ own w count plain j
    → n.arcs ≤ j → MetAll w₀ w base count₀ plain₀ c (hops_in n file own) (Some (record { count = count; plain = plain }))
unfolding collect
going_end {file} {w₀} {own = own} g h all plains t =
    left_end (rw (chosen-off (state_of file w₀) (own / 2 ^ 32) g.upto (off_chain (state_of file w₀) (own / 2 ^ 32) g.few g.here h)) at (g.left all plains t))
