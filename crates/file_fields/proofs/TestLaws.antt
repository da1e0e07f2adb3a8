-- TestLaws: what tests that hold say, joined by &&, or one after the other with their numbers and places.
use mathlib.Core.Path.{◌≡◌, ap, refl, sym, ◌∙◌}
use mathlib.Core.Bool.{Bool, true, false, not, ◌&&◌}
use mathlib.Core.List.{List, [], ◌∷◌, ◌++◌}
use Prim.Native.Nat.{ℕ}
use native.Mathlib.Omega.{arith}
use borrow.Author.Tests.{not-true, not-false}
use Rattle.file_fields.specs.declared.Counts.{Counts}
use Rattle.std.specs.Prelude.{Result, Ok, Err}
use Rattle.file_fields.specs.declared.Fault.{Fault}
use Rattle.file_fields.specs.declared.Reason.{Reason}
use Rattle.file_fields.specs.Parts.{all_hold, first_fault}
use Rattle.automata.specs.Lists.{Each}

-- the answer r of a function is its test t: `if !r` was not taken, or was
pub passed : {r t : Bool} → r ≡ t → not r ≡ false → t ≡ true
passed {r} e n = sym e ∙ not-false r n

pub failed : {r t : Bool} → r ≡ t → not r ≡ true → t ≡ false
failed {r} e n = sym e ∙ not-true r n

-- ---- tests joined by &&
pub and_both : (a b : Bool) → (a && b) ≡ true → (a ≡ true) × (b ≡ true)
and_both true b e = (refl, e)
and_both false b e = let z : ◌≡◌ {A = ℕ} 0 1 = cc in absurd (omega arith)

-- `t && u && v` is t and the list of u and v
abbrev pub all : Bool → List Bool → Bool
all t [] = t
all t (u ∷ l) = all (t && u) l

pub all_hold_lem : (t : Bool) (l : List Bool) → all t l ≡ true → (t ≡ true) × Each (λ u. u ≡ true) l
all_hold_lem t [] e = (e, tt)
all_hold_lem t (u ∷ l) e =
    let h = all_hold_lem (t && u) l e in
    let b = and_both t u h.0 in
    (b.0, (b.1, h.1))

-- ---- tests one after the other
abbrev pub Holds : Bool × Reason × ℕ → Type 0
Holds t = t.0 ≡ true

abbrev pub Hold : List (Bool × Reason × ℕ) → Type 0
Hold l = Each Holds l

-- a valid file's tests all hold ..
pub valid-hold : (l : List (Bool × Reason × ℕ)) (c : Counts) {d : Counts} → first_fault l c ≡ Ok d → Hold l × (c ≡ d)
unfolding first_fault
valid-hold [] c e = (tt, cc)
valid-hold ((true, n, p) ∷ l) c e = let h = valid-hold l c e in ((refl, h.0), h.1)
valid-hold ((false, n, p) ∷ l) c e = let z : ◌≡◌ {A = ℕ} 0 1 = cc in absurd (omega arith)

-- .. and then it is valid
pub Hold-valid : (l : List (Bool × Reason × ℕ)) (c : Counts) → Hold l → first_fault l c ≡ Ok c
unfolding first_fault
Hold-valid [] c h = refl
Hold-valid (t ∷ l) c h = rw h.0 (Hold-valid l c h.1)

-- where all tests were looked at at once, each holds ..
pub each_holds : (b : Bool) (l : List (Bool × Reason × ℕ)) → all_hold b l ≡ true → (b ≡ true) × Hold l
each_holds b [] e = (e, tt)
each_holds b (t ∷ l) e =
    let h = each_holds (b && t.0) l e in
    let q = and_both b t.0 h.0 in
    (q.0, (q.1, h.1))

-- where one fails, not all hold; more tests behind them change nothing of that
pub all-false : (l : List (Bool × Reason × ℕ)) → all_hold false l ≡ false
all-false [] = refl
all-false (t ∷ l) = all-false l

pub all_append : (b : Bool) (l r : List (Bool × Reason × ℕ)) → all_hold b (l ++ r) ≡ all_hold (all_hold b l) r
all_append b [] r = refl
all_append b (t ∷ l) r = all_append (b && t.0) l r

-- ---- tests behind tests
abbrev pub and_then : Result Counts Fault → Result Counts Fault → Result Counts Fault
and_then (Ok c) rest = rest
and_then (Err f) rest = Err f

-- .. or one of them fails, and what is behind them is not looked at
pub one-fails : (l : List (Bool × Reason × ℕ)) (c : Counts) (rest : Result Counts Fault) → all_hold true l ≡ false → and_then (first_fault l c) rest ≡ first_fault l c
unfolding first_fault
one-fails [] c rest e = let z : ◌≡◌ {A = ℕ} 0 1 = cc in absurd (omega arith)
one-fails ((true, n, p) ∷ l) c rest e = one-fails l c rest e
one-fails ((false, n, p) ∷ l) c rest e = refl

-- tests behind others are looked at if those hold
pub fault_append : (l r : List (Bool × Reason × ℕ)) (c : Counts) → first_fault (l ++ r) c ≡ and_then (first_fault l c) (first_fault r c)
unfolding first_fault
fault_append [] r c = refl
fault_append ((true, n, p) ∷ l) r c = fault_append l r c
fault_append ((false, n, p) ∷ l) r c = refl

-- an answer is itself: handed over where nothing else is left to show, so that the checker names what a wrong program answers instead
pub itself : {A : Type 0} (answer : A) → answer ≡ answer
itself answer = refl

module _ (l : List (Bool × Reason × ℕ)) (c : Counts) where
  -- where all before them hold, they decide ..
  pub goes_on : {d : Counts} → first_fault l c ≡ Ok d → (r : List (Bool × Reason × ℕ)) → first_fault (l ++ r) c ≡ first_fault r c
  goes_on e r = fault_append l r c ∙ ap (λ a. and_then a (first_fault r c)) e

  -- .. of the counts that those answered
  pub Goes-on_with : {d : Counts} → first_fault l c ≡ Ok d → (r : Counts → List (Bool × Reason × ℕ)) → first_fault (l ++ r c) c ≡ first_fault (r d) d
  Goes-on_with e r = goes_on e (r c) ∙ ap (λ (k : Counts). first_fault (r k) k) (valid-hold l c e).1

  -- where one before them fails, it decides
  pub stops : {f : Fault} → first_fault l c ≡ Err f → (r : List (Bool × Reason × ℕ)) → first_fault (l ++ r) c ≡ Err f
  stops e r = fault_append l r c ∙ ap (λ a. and_then a (first_fault r c)) e
