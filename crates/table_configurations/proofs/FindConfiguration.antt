-- FindConfiguration: what is found in the table of configurations is the number that the walk gives, and what meeting one makes of the tables.
use mathlib.Core.Path.{◌∙◌, ◌≡◌}
use Prim.Native.Nat.{◌+◌, ◌<◌, ◌≤◌, ℕ}
use lib.Dec.{eqb}
use lib.ListN.{drop, get_or, get_elem?, length, length-append, length-drop, length-take}
use lib.Seq.{get_or-drop, get_or-take}
use mathlib.Core.List.{List, [], ◌++◌, ◌∷◌}
use mathlib.Core.Option.{Option, some}
use native.Mathlib.Omega.{arith}
use Rattle.automata.specs.Exploration.{add, number}
use Rattle.automata.specs.Live.{PlainArc}
use Rattle.word_layout.specs.Layout.{Placed, configs}
use Rattle.table_configurations.specs.Known.{plain_arc}
use Rattle.table_configurations.specs.Tables.{Tabled}
use Rattle.word_fields.specs.Chains.{Found, WordAt}
use Rattle.automata.proofs.Laws.{add-new, add-old, at_some, eqb-iff, one_number}
use Rattle.word_fields.proofs.Laws.{word_number}

pub placed-kept : {w w'' : List ℕ} {base : ℕ} → length w'' ≡ length w → Placed w base → Placed w'' base
placed-kept e p = record { above = p.above; block = omega (arith, p.block) }

module _ {w : List ℕ} {base count plain : ℕ} {all : List ℕ} {plains : List PlainArc} (p : Placed w base) (few : count ≤ 256) (t : Tabled w base count plain all plains) where
  pub all-length : length all ≡ count
  all-length = rw (← t.table) (simp (length-take, length-drop) (omega (arith, p.above, p.block)))

  -- word i of the table is configuration i
  pub all-at : (i : ℕ) → i < count → get_elem? all i ≡ some (get_or w (configs + i) 0)
  all-at i h = at_some all i 0 (omega (arith, all-length)) ∙ rw (← t.table, get_or-take count (drop configs w) i 0 h, get_or-drop configs w i 0)

  -- no two of its words are the same
  apart : (i j : ℕ) → i < count → j < count → get_or w (configs + i) 0 ≡ get_or w (configs + j) 0 → i ≡ j
  apart i j h g e = one_number eqb eqb-iff all i j t.distinct (all-at i h) (all-at j g ∙ rw e)

  module _ {key r : ℕ} (f : Found (WordAt w configs key) count r) where
    is_number : r ≡ number eqb key all
    is_number = rw (← t.table) (word_number w configs count key r (omega (arith, p.above, p.block)) apart f)

    -- it has the number r
    pub met-old : {w'' : List ℕ} (c : ℕ) (α : Option ℕ) → r < count → Tabled w'' base count (plain + 1) all (plains ++ plain_arc c α r ∷ [])
        → Tabled w'' base count (plain + 1) (add eqb all key) (plains ++ plain_arc c α (number eqb key all) ∷ [])
    met-old c α h a = rw (add-old eqb key all (omega (arith, is_number, all-length)), ← is_number) a

    -- it has none
    pub met-none : count ≤ r → number eqb key all ≡ count
    met-none h = omega (arith, is_number, f.few)

    pub met-many : count ≤ r → length (add eqb all key) ≡ count + 1
    met-many h = rw (add-new eqb key all (omega (arith, met-none h, all-length)), length-append) (omega (arith, all-length))
