-- MovedFits: arcs with other states and registers, and the arcs that joins add, are within the limits of the joined counts.
use mathlib.Core.Path.{◌≡◌, refl}
use mathlib.Core.Bool.{Bool, false, true}
use mathlib.Core.List.{List, [], ◌∷◌, map}
use mathlib.Core.Option.{none}
use Prim.Native.Nat.{◌+◌, ◌-◌, ◌<◌, ◌≤◌, suc, zero, ℕ, max}
use native.Mathlib.Decide.{dec_lt}
use native.Mathlib.Omega.{arith}
use lib.ListN.{length, length-map}
use Rattle.automata.specs.Automaton.{Arc, KeepsZero, Op, reads, register, symbol, writes}
use Rattle.automata.specs.Joins.{arc_from, clearing, moved, moved_arc, moved_op, empty_move, final_states}
use Rattle.automata.specs.Lists.{count_from}
use Rattle.automata.specs.Unfolding.{read_zero}
use Rattle.file_fields.specs.declared.Counts.{Counts}
use Rattle.file_laws.proofs.Laws.{ArcFits, OpFits}
use Rattle.automata.specs.Lists.{Each}
use Rattle.file_arc_writing.proofs.Laws.{cleared, cleared-count, clearing-few, clearing-more, ops-unmoved}
use Rattle.join_parts.proofs.EachElement.{each-imply, each_map}

-- ---- an operation
keeps-zero : (k : ℕ) (o : Op) → KeepsZero o → KeepsZero (moved_op k o)
unfolding KeepsZero
keeps-zero k (reads zero γ) h = h
keeps-zero k (reads (suc i) γ) h = tt
keeps-zero k (writes zero γ) h = absurd h
keeps-zero k (writes (suc i) γ) h = tt

moved_inside : (k n : ℕ) (o : Op) → register o < n → register (moved_op k o) < k + n
moved_inside k n (reads zero γ) h = omega arith
moved_inside k n (reads (suc i) γ) h = omega arith
moved_inside k n (writes zero γ) h = omega arith
moved_inside k n (writes (suc i) γ) h = omega arith

moved-symbol : (k : ℕ) (o : Op) → symbol (moved_op k o) ≡ symbol o
moved-symbol k (reads i γ) = refl
moved-symbol k (writes i γ) = refl

-- the counts d have room for the registers of c, moved by k, for its symbols and its letters
pub record Room (k : ℕ) (c d : Counts) : Type 0 where
  pub registers : k + c.registers ≤ d.registers
  pub symbols : c.symbols ≤ d.symbols
  pub letters : c.letters ≤ d.letters

module _ (k : ℕ) (c d : Counts) (room : Room k c d) where
  Op-moved : (o : Op) → OpFits c o → OpFits d (moved_op k o)
  Op-moved o h = record {
    inside = omega (arith, moved_inside k c.registers o h.inside, room.registers);
    small = rw (moved-symbol k o) (omega (arith, h.small, room.symbols));
    zero_kept = keeps-zero k o h.zero_kept;
  }

  pub ops-moved : (os : List Op) → Each (OpFits c) os → Each (OpFits d) (map (moved_op k) os)
  ops-moved os h = each_map (OpFits d) (moved_op k) os (each-imply (OpFits c) (λ (o : Op). OpFits d (moved_op k o)) Op-moved os h)

  -- an arc of c with other states, its registers moved
  pub arc-moved : (s t : ℕ) (x : Arc) → s < d.states → t < d.states → ArcFits c x → ArcFits d (arc_from s x.letter t (map (moved_op k) x.ops))
  arc-moved s t x p q h =
      let n = length-map x.ops (moved_op k) in
      record {
        source = p;
        lettered = λ l e. omega (arith, h.lettered l e, room.letters);
        target = q;
        some_op = omega (arith, h.some_op);
        few_ops = omega (arith, h.few_ops);
        ops = ops-moved x.ops h.ops;
      }

  -- all arcs of c, their states moved by s
  pub arcs-moved : (s : ℕ) (l : List Arc) → s + c.states ≤ d.states → Each (ArcFits c) l → Each (ArcFits d) (map (moved_arc s k) l)
  arcs-moved s l m h =
      each_map (ArcFits d) (moved_arc s k) l
      (each-imply (ArcFits c) (λ (x : Arc). ArcFits d (moved_arc s k x)) (λ x f. arc-moved (s + x.source) (s + x.target) x (omega (arith, f.source)) (omega (arith, f.target)) f) l h)

-- moved by 0, the registers are as they were
pub moved-states : (s : ℕ) (l : List Arc) → map (moved s) l ≡ map (moved_arc s 0) l
moved-states s [] = refl
moved-states s (x ∷ l) = rw (ops-unmoved x.ops, moved-states s l)

pub states-moved : (c d : Counts) → Room 0 c d → (s : ℕ) (l : List Arc) → s + c.states ≤ d.states → Each (ArcFits c) l → Each (ArcFits d) (map (moved s) l)
states-moved c d room s l m h = rw (moved-states s l) (arcs-moved 0 c d room s l m h)

pub unmoved : (l : List Arc) → map (moved_arc 0 0) l ≡ l
unmoved [] = refl
unmoved (x ∷ l) = let e : 0 + x.source ≡ x.source = omega arith in let f : 0 + x.target ≡ x.target = omega arith in rw (e, f, ops-unmoved x.ops, unmoved l)

-- ---- added arcs
cleared-fit : (d : Counts) (r n : ℕ) → 1 ≤ r → r + n ≤ d.registers → 1 ≤ d.symbols → Each (OpFits d) (cleared r n)
unfolding count_from KeepsZero
cleared-fit d r zero a h g = tt
cleared-fit d zero (suc n) a h g = absurd (omega arith)
cleared-fit d (suc r) (suc n) a h g = (record { inside = omega arith; small = omega arith; zero_kept = tt }, cleared-fit d (suc (suc r)) n (omega arith) (omega arith) g)

read_fits : (d : Counts) → 1 ≤ d.registers → 1 ≤ d.symbols → Each (OpFits d) read_zero
unfolding KeepsZero
read_fits d r g = (record { inside = omega arith; small = omega arith; zero_kept = refl }, tt)

pub clearing-count : (n : ℕ) → (1 ≤ length (clearing n)) × (length (clearing n) ≤ max 1 (n - 1))
clearing-count n = go n (dec_lt n 2)
  where
    go : (n : ℕ) → Dec (n < 2) → (1 ≤ length (clearing n)) × (length (clearing n) ≤ max 1 (n - 1))
    go n (yes h) = rw (clearing-few n h) (omega arith, omega arith)
    go n (no h) = let e = cleared-count 1 (n - 1) in rw (clearing-more n (omega arith)) (omega arith, omega arith)

clearing-fits : (d : Counts) (n : ℕ) → n ≤ d.registers → 1 ≤ d.registers → 1 ≤ d.symbols → Each (OpFits d) (clearing n)
clearing-fits d n m r g = go (dec_lt n 2)
  where
    go : Dec (n < 2) → Each (OpFits d) (clearing n)
    go (yes h) = rw (clearing-few n h) (read_fits d r g)
    go (no h) = rw (clearing-more n (omega arith)) (cleared-fit d 1 (n - 1) (omega arith) (omega arith) g)

final-later : (i : ℕ) (l : List ℕ) (n : ℕ) → Each (λ (s : ℕ). s < suc i + n) l → Each (λ (s : ℕ). s < i + suc n) l
final-later i l n h = each-imply (λ (s : ℕ). s < suc i + n) (λ (s : ℕ). s < i + suc n) (λ s h. omega arith) l h

-- the numbers of final states are below the number of states
final-below : (i : ℕ) (l : List Bool) → Each (λ (s : ℕ). s < i + length l) (final_states i l)
unfolding final_states
final-below i [] = tt
final-below i (true ∷ l) = (omega arith, final-later i (final_states (suc i) l) (length l) (final-below (suc i) l))
final-below i (false ∷ l) = final-later i (final_states (suc i) l) (length l) (final-below (suc i) l)

-- an added empty move clears one register: none
pub empty-moves : (t : ℕ) (l : List ℕ) → map (λ (i : ℕ). empty_move i t) l ≡ map (λ (i : ℕ). arc_from (0 + i) none t (clearing 1)) l
unfolding clearing
empty-moves t [] = refl
empty-moves t (i ∷ l) = let e : 0 + i ≡ i = omega arith in rw (e, empty-moves t l)

module _ (d : Counts) (r : 1 ≤ d.registers) (g : 1 ≤ d.symbols) where
  -- an empty move that clears the registers 1 to n - 1
  pub return_fits : (n s t : ℕ) → n ≤ d.registers → n ≤ 8 → s < d.states → t < d.states → ArcFits d (arc_from s none t (clearing n))
  return_fits n s t m f p q =
      let k = clearing-count n in
      record {
        source = p;
        lettered = λ l e. absurd (let z : ◌≡◌ {A = ℕ} 0 1 = cc in omega arith);
        target = q;
        some_op = k.0;
        few_ops = omega (arith, k.1);
        ops = clearing-fits d n m r g;
      }

  -- one from each final state
  pub returns_fit : (s t n : ℕ) (l : List Bool) → s + length l ≤ d.states → t < d.states → n ≤ d.registers → n ≤ 8
      → Each (ArcFits d) (map (λ (i : ℕ). arc_from (s + i) none t (clearing n)) (final_states 0 l))
  returns_fit s t n l m q k f =
      each_map (ArcFits d) (λ (i : ℕ). arc_from (s + i) none t (clearing n)) (final_states 0 l)
      (each-imply (λ (i : ℕ). i < 0 + length l) (λ (i : ℕ). ArcFits d (arc_from (s + i) none t (clearing n))) (λ i h. return_fits n (s + i) t k f (omega arith) q) (final_states 0 l) (final-below 0 l))

  pub empty-moves-fit : (t : ℕ) (l : List Bool) → length l ≤ d.states → t < d.states → Each (ArcFits d) (map (λ (i : ℕ). empty_move i t) (final_states 0 l))
  empty-moves-fit t l m q = rw (empty-moves t (final_states 0 l)) (returns_fit 0 t 1 l (omega arith) q r (omega arith))
