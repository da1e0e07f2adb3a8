-- TwinRows: a table that holds the pairs of an automaton and itself, from a set beside itself on, holds its live sets, in the order in which
-- they are met.
use Rattle.std.proofs.Common.{Option, Some, None}
use mathlib.Core.Path.{◌∙◌, ◌≡◌, ap, refl, sym}
use mathlib.Core.Bool.{Bool}
use mathlib.Core.List.{List, map}
use mathlib.Core.Option
use mathlib.Core.Option.{some-injective, some}
use Prim.Native.Nat.{ℕ}
use native.Mathlib.Omega.{arith}
use lib.ListN.{get_elem?, length, length-map}
use Rattle.automata.specs.Live.{PlainArc, by_letter}
use Rattle.automata.specs.LiveSets.{same_set}
use Rattle.automata.specs.Pairs.{Pair, same_pair}
use Rattle.automata.specs.Search.{Entry, entries, met}
use Rattle.automata.proofs.Laws.{at_map, get_elem?-lt, get_elem?-some, Twins-met}
use Rattle.word_layout.specs.declared.SetTable.{SetTable}
use Rattle.live_table.specs.Entries.{Holds, Side, along}
use Rattle.live_letters.specs.Meeting.{Outcome}
use Rattle.live_search.specs.Exploring.{Sets, SetsOutcome}

abbrev left_set : Entry Pair → List Bool
left_set e = e.state.left

module _ (count : ℕ) (arcs : List PlainArc) (a : ℕ) (S : List Bool) (P : ℕ) where
  abbrev pub side : Side
  side = record { size = count; arcs = arcs }

  abbrev pairs : List (Entry Pair)
  pairs = entries same_pair (along side side) a (record { left = S; right = S }) P

  abbrev sets : List (List Bool)
  sets = met same_set (by_letter count arcs) a S P

  same-sets : map left_set pairs ≡ sets
  unfolding along
  same-sets = (Twins-met (by_letter count arcs) (along side side) (λ p l. refl) (λ p l. refl) a S P).0

  same-many : length pairs ≡ length sets
  same-many = sym (length-map pairs left_set) ∙ ap (λ (l : List (List Bool)). length l) same-sets

  held : {tab : SetTable} {w : List ℕ} {n : ℕ} → Holds tab side side w n pairs → Sets count arcs tab w n sets
  held {tab} {w} {n} h = record {
    many = sym same-many ∙ h.many;
    each = λ i R p.
        let q : get_elem? (map left_set pairs) i ≡ some R = ap (λ (l : List (List Bool)). get_elem? l i) same-sets ∙ p in
        let e = get_elem?-some pairs i (omega (arith, get_elem?-lt sets i p, same-many)) in
        let r = h.each i e.0 e.1 in
        let z : left_set e.0 ≡ R = some-injective _ _ (sym (ap (Option.map left_set) e.1) ∙ sym (at_map left_set pairs i) ∙ q) in
        (r.left ∙ z, r.settled₁);
  }

  -- THE LAW. What is said of the pairs is said of the sets
  pub sets-outcome : (tab : SetTable) (w : List ℕ) (r : Option ℕ) → Outcome P tab side side w pairs r → SetsOutcome P count arcs tab w sets r
  sets-outcome tab w None o = omega (arith, same-many)
  sets-outcome tab w (Some n) o = held o
