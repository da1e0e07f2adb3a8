-- ExploredBlock: what the walk leaves in the words, said of the automaton.
use mathlib.Core.Path.{◌∙◌, ◌≡◌, ap, sym}
use Prim.Native.Nat.{◌<◌, ◌≤◌, ℕ}
use borrow.Author.Tests.{le-ltb, lt-ltb}
use lib.ListN.{length, length-map}
use mathlib.Core.List.{List}
use native.Mathlib.Omega.{arith}
use Rattle.automata.specs.Automaton.{Automaton}
use Rattle.automata.specs.Unfolding.{configurations, plain_arcs}
use Rattle.table_explore.specs.Explores.{Explores, explored_of, start_of}
use Rattle.word_layout.specs.Layout.{Placed}
use Rattle.table_configurations.specs.Known.{known_packed, plains_up_to}
use Rattle.table_operations.specs.Packed.{pack}
use Rattle.table_configurations.specs.Tables.{Tabled}
use Rattle.std.specs.Prelude.{Some, None}
use Rattle.format.specs.Decoding.{arcs_of}
use Rattle.format.specs.Placed.{OkArcs}
use Rattle.table_configurations.proofs.Laws.{all-length}
use Rattle.table_explore.proofs.PackedWalk.{configurations-packed, plain_all-packed, plain_arcs-packed}
use Rattle.table_explore.proofs.ExploreAll.{Walking, walking-end}

module _ (x : Automaton) (n m : ℕ) (l : List ℕ) (few : n ≤ 8) (regs : x.registers ≡ n) (arcs : x.arcs ≡ arcs_of m l) (ok : OkArcs n m l) (L : ℕ) (limit : L ≡ 256) where
  all-many : length (configurations x L) ≡ length (known_packed m l L)
  all-many = sym (length-map (configurations x L) pack) ∙ ap length (configurations-packed x n m l few regs arcs ok L).0

  -- more than L
  pub Explores-many : (w : List ℕ) (base : ℕ) → 256 < length (known_packed m l L) → Explores x L w base None
  unfolding explored_of
  Explores-many w base h = record { answer = rw (lt-ltb L (length (configurations x L)) (omega (arith, all-many))); block = tt }

  -- the walk has ended with `count` of them
  module _ {w₀ w : List ℕ} {base count plain c : ℕ} (place : Placed w base) (g : Walking m l w₀ base w count plain c) (over : count ≤ c) where
    tabled : Tabled w base count plain (known_packed m l L) (plains_up_to m l L)
    tabled = walking-end L place g over (omega (arith, g.turns))

    many : length (configurations x L) ≡ count
    many = all-many ∙ all-length place g.configured.few tabled

    plains : plain_arcs x L ≡ plains_up_to m l L
    plains = plain_arcs-packed x n m l few regs arcs ok L (omega (arith, many, g.configured.few))

    answered : Some (record { count = count; plain = plain }) ≡ explored_of x L
    unfolding explored_of
    answered = rw (le-ltb L (length (configurations x L)) (omega (arith, many, g.configured.few)), many, plains) (ap (λ (p : ℕ). Some (record { count = count; plain = p })) tabled.counted)

    started : (s : ℕ) → s < count → length (plains_up_to m l s) ≡ start_of x L s
    unfolding start_of
    started s h = ap length (sym (plain_all-packed x n m l few regs arcs ok L s (omega (arith, g.configured.few))))

    pub Explores-all : Explores x L w base (Some (record { count = count; plain = plain }))
    Explores-all = record {
      answer = answered;
      block = record {
        configured = g.configured;
        table = tabled.table ∙ sym (configurations-packed x n m l few regs arcs ok L).0;
        arcs = λ q. rw plains (tabled.list q);
        starts = λ q s h. g.starts q s (omega arith) ∙ started s h;
        rows = rw plains tabled.rows;
      };
    }
