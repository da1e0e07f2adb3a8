-- WithinLimits: an automaton that is not beyond a limit, whose arcs are within those of its counts, is within the limits of a file.
use mathlib.Core.Path.{◌≡◌, refl}
use mathlib.Core.Bool.{Bool, ◌||◌, false, or-false, true}
use mathlib.Core.List.{List, ◌∷◌, []}
use Prim.Native.Nat.{◌≤◌, ℕ}
use native.Mathlib.Omega.{arith}
use borrow.Author.Tests.{le-ltb, ltb-false}
use lib.Dec.{ltb}
use lib.ListN.{length}
use Rattle.automata.specs.Automaton.{Arc, Automaton}
use Rattle.automata.specs.Counting.{Apart}
use Rattle.automata.specs.Letters.{keys}
use Rattle.automata.specs.Lists.{any}
use Rattle.file_fields.specs.declared.Counts.{Counts}
use Rattle.format.specs.Encoding.{sizes}
use Rattle.format.specs.Limits.{Fits}
use Rattle.file_fields.specs.Parts.{ascending}
use Rattle.file_laws.proofs.Laws.{ArcFits, fits_by}
use Rattle.automata.specs.Lists.{Each}
use Rattle.join_parts.specs.Joining.{many_counts, beyond, many_ops}
use Rattle.join_parts.proofs.EachElement.{each-imply}

-- ---- tests joined by ||
or_neither : (a b : Bool) → (a || b) ≡ false → (a ≡ false) × (b ≡ false)
or_neither true b e = let z : ◌≡◌ {A = ℕ} 0 1 = cc in absurd (omega arith)
or_neither false b e = (refl, e)

pub none_passes : {A : Type 0} (t : A → Bool) (l : List A) → any t l ≡ false → Each (λ x. t x ≡ false) l
unfolding any
none_passes t [] e = tt
none_passes t (x ∷ l) e = let p = or_neither (t x) (any t l) e in (p.0, none_passes t l p.1)

pub passes_none : {A : Type 0} (t : A → Bool) (l : List A) → Each (λ x. t x ≡ false) l → any t l ≡ false
unfolding any
passes_none t [] h = refl
passes_none t (x ∷ l) h = rw (h.0, passes_none t l h.1)

-- ---- the counts
pub record Few (c : Counts) : Type 0 where
  pub states : c.states ≤ 256
  pub registers : c.registers ≤ 8
  pub arcs : c.arcs ≤ 2048

pub few-counts : (c : Counts) → many_counts c ≡ false → Few c
few-counts c e =
    let p = or_neither (ltb 256 c.states || ltb 8 c.registers) (ltb 2048 c.arcs) e in
    let q = or_neither (ltb 256 c.states) (ltb 8 c.registers) p.0 in
    record { states = ltb-false _ _ q.0; registers = ltb-false _ _ q.1; arcs = ltb-false _ _ p.1 }

-- ---- the automaton
-- 8 operations at most
abbrev pub FewOps : Arc → Type 0
FewOps a = length a.ops ≤ 8

module _ (x : Automaton) where
  -- where no arc has more operations, the counts decide
  pub beyond-counts : Each FewOps x.arcs → beyond x ≡ many_counts (sizes x)
  unfolding beyond
  beyond-counts h = rw (passes_none many_ops x.arcs (each-imply FewOps (λ (a : Arc). many_ops a ≡ false) (λ (a : Arc) (k : FewOps a). le-ltb 8 (length a.ops) k) x.arcs h)) (or-false (many_counts (sizes x)))

  pub within : beyond x ≡ false → Few (sizes x) × Each FewOps x.arcs
  unfolding beyond
  within e =
      let p = or_neither (many_counts (sizes x)) (any many_ops x.arcs) e in
      (few-counts (sizes x) p.0, each-imply (λ (a : Arc). many_ops a ≡ false) FewOps (λ (a : Arc) (k : many_ops a ≡ false). ltb-false 8 (length a.ops) k) x.arcs (none_passes many_ops x.arcs p.1))

-- ---- ranges and arcs make it so
module _ (x : Automaton) (letters : length x.alphabet ≤ 64) (ascends : ascending x.alphabet ≡ true) (apart : Apart (keys x.alphabet))
    (some_state : 1 ≤ length x.finals) (some_register : 1 ≤ x.registers) (some_symbol : 1 ≤ x.symbols) (symbols : x.symbols ≤ 16) where
  pub joined-fits : Few (sizes x) → Each (ArcFits (sizes x)) x.arcs → Fits x
  joined-fits f h = fits_by x (record {
    letters = letters;
    some_state = some_state;
    states = f.states;
    some_register = some_register;
    registers = f.registers;
    some_symbol = some_symbol;
    symbols = symbols;
    arcs = f.arcs;
  }) ascends apart h

-- 8 operations at most, of arcs within limits
pub few_ops : (d : Counts) (l : List Arc) → Each (ArcFits d) l → Each FewOps l
few_ops d l h = each-imply (ArcFits d) FewOps (λ x f. f.few_ops) l h
