-- UnfoldedFits: the unfolded automaton is within the limits of a file, where the configurations and the plain arcs are few enough.
use mathlib.Core.Path.{◌≡◌, refl, subst}
use mathlib.Core.List.Memᴰ
use mathlib.Core.List.{Memᴰ, map}
use Prim.Native.Nat.{◌≤◌, ℕ}
use native.Mathlib.Omega.{arith}
use lib.ListN.{length, length-map}
use Rattle.automata.specs.Automaton.{Automaton, Configuration, KeepsZero, letters}
use Rattle.automata.specs.Live.{PlainArc, in?}
use Rattle.automata.specs.Unfolding.{as_arc, configurations, final_set, plain_arcs, unfolded}
use Rattle.automata.proofs.Laws.{mem_each}
use Rattle.format.specs.Encoding.{sizes}
use Rattle.format.specs.Limits.{Fits, Ranges}
use Rattle.file_fields.specs.declared.Counts.{Counts}
use Rattle.file_laws.proofs.Laws.{ArcFits, fits_by}
use Rattle.table.proofs.Laws.{plain-fit, some-configuration}

-- the counts of an automaton whose one register nothing writes
abbrev pub plain_counts : (letters states arcs : ℕ) → Counts
plain_counts letters states arcs = record { letters = letters; states = states; registers = 1; symbols = 1; arcs = arcs }

-- its counts are such
pub unfolded-sizes : (x : Automaton) (L : ℕ) → sizes (unfolded x L) ≡ plain_counts (letters x) (length (configurations x L)) (length (plain_arcs x L))
unfolding unfolded final_set
unfolded-sizes x L =
    let s = length-map (configurations x L) (λ (c : Configuration). in? x.finals c.state) in
    let m = length-map (plain_arcs x L) as_arc in
    λ i. record { letters = letters x; states = s i; registers = 1; symbols = 1; arcs = m i }

module _ (x : Automaton) (fits : Fits x) {L : ℕ} (limit : L ≤ 256) (few : length (configurations x L) ≤ L) (plain : length (plain_arcs x L) ≤ 2048) where
  abbrev counts : Counts
  counts = plain_counts (letters x) (length (configurations x L)) (length (plain_arcs x L))

  ranges : Ranges counts
  ranges = record {
    letters = fits.ranges.letters;
    some_state = some-configuration x fits.well_formed L few;
    states = omega arith;
    some_register = omega arith;
    registers = omega arith;
    some_symbol = omega arith;
    symbols = omega arith;
    arcs = plain;
  }

  arc-fits : (a : PlainArc) → Memᴰ a (plain_arcs x L) → ArcFits counts (as_arc a)
  unfolding KeepsZero
  arc-fits a m =
      let p = plain-fit x fits.well_formed L few a m in
      record {
        source = p.source;
        lettered = p.lettered;
        target = p.target;
        some_op = omega arith;
        few_ops = omega arith;
        ops = (record { inside = omega arith; small = omega arith; zero_kept = refl }, tt);
      }

  -- THE LAW. It is within the limits of a file
  pub unfolded-fits : Fits (unfolded x L)
  unfolding unfolded
  unfolded-fits =
      let e = unfolded-sizes x L in
      fits_by (unfolded x L) (rw e ranges) fits.ascends fits.well_formed.letters_apart
      (mem_each (map as_arc (plain_arcs x L)) (λ b m. let q = Memᴰ.of_map as_arc (plain_arcs x L) m in rw e (subst (ArcFits counts) q.2 (arc-fits q.0 q.1))))
