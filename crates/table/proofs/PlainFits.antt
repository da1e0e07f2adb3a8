-- PlainFits: the plain arcs of an automaton lead between its configurations and have letters of it.
use mathlib.Core.Path.{◌∙◌, ◌≡◌, refl}
use mathlib.Core.List.{List, Memᴰ, [], ◌∷◌}
use mathlib.Core.Option.{some}
use Prim.Native.Nat.{◌+◌, ◌<◌, ◌≤◌, suc, ℕ}
use native.Mathlib.Omega.{arith}
use lib.ListN.{length}
use Rattle.automata.specs.Automaton.{Automaton, Configuration, WellFormed, letters}
use Rattle.automata.specs.Lists.{Each}
use Rattle.automata.specs.Live.{PlainArc}
use Rattle.automata.specs.Performing.{Move, successors}
use Rattle.automata.specs.Unfolding.{configurations, plain_all, plain_arcs, plain_from}
use Rattle.automata.proofs.Laws.{each-join, each-mem, first-configuration, get_elem?-lt, successors-iff, within}

-- a plain arc between `count` configurations, with one of n letters
pub record PlainFits (count n : ℕ) (a : PlainArc) : Type 0 where
  pub source : a.source < count
  pub lettered : (l : ℕ) → a.letter ≡ some l → l < n
  pub target : a.target < count

-- its source and its letter
abbrev Leaves : ℕ → ℕ → PlainArc → Type 0
Leaves count n a = (a.source < count) × ((l : ℕ) → a.letter ≡ some l → l < n)

module _ (x : Automaton) (formed : WellFormed x) where
  move-lettered : (c : Configuration) (m : Move) → Memᴰ m (successors x c) → (l : ℕ) → m.letter ≡ some l → l < letters x
  move-lettered c m k l e = let p = (successors-iff x c m.letter m.to).0 k in formed.lettered p.arc p.listed l (p.spells ∙ e)

  module _ (all : List Configuration) where
    from-leaves : (count i : ℕ) (ms : List Move) → i < count → ((m : Move) → Memᴰ m ms → (l : ℕ) → m.letter ≡ some l → l < letters x) → Each (Leaves count (letters x)) (plain_from all i ms)
    unfolding plain_from
    from-leaves count i [] h f = tt
    from-leaves count i (m ∷ ms) h f = ((h, f m (Memᴰ.head refl)), from-leaves count i ms h (λ n j. f n (Memᴰ.tail j)))

    all-leave : (count i : ℕ) (cs : List Configuration) → i + length cs ≤ count → Each (Leaves count (letters x)) (plain_all x all i cs)
    unfolding plain_all
    all-leave count i [] h = tt
    all-leave count i (c ∷ cs) h = each-join (Leaves count (letters x)) (plain_from all i (successors x c)) (plain_all x all (suc i) cs)
        (from-leaves count i (successors x c) (omega arith) (move-lettered c))
        (all-leave count (suc i) cs (omega arith))

  module _ (L : ℕ) (few : length (configurations x L) ≤ L) where
    abbrev many : ℕ
    many = length (configurations x L)

    -- THE LAW of plain arcs
    pub plain-fit : (a : PlainArc) → Memᴰ a (plain_arcs x L) → PlainFits many (letters x) a
    unfolding plain_arcs
    plain-fit a m =
        let s = each-mem (Leaves many (letters x)) (all-leave (configurations x L) many 0 (configurations x L) (omega arith)) m in
        record { source = s.0; lettered = s.1; target = within x L few a m }

    pub some-configuration : 1 ≤ many
    some-configuration = get_elem?-lt (configurations x L) 0 (first-configuration x L few)
