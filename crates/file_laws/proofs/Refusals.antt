-- Refusals: where each test decides its condition, the first test that holds is the first condition that holds (format's
-- specs/Refusals.antt).
use mathlib.Core.Path.{◌≡◌, ◌∙◌, ap, refl, subst, sym}
use mathlib.Core.Logic.{◌↔◌, ◌⊎◌, inl, inr, ⊎_elim}
use mathlib.Core.Bool.{Bool, ◌||◌, cond, false, true}
use mathlib.Core.List.{List, [], ◌∷◌}
use Prim.Native.Nat.{ℕ, ◌<◌, ◌≤◌}
use native.Mathlib.Decide.{dec_lt}
use native.Mathlib.Omega.{arith}
use lib.Dec.{T, eqb, leb, ltb, ltb→lt, lt→ltb}
use lib.ListN.{length}
use Rattle.automata.specs.Automaton.{Automaton, Reachable}
use Rattle.automata.specs.Counting.{MoreThan}
use Rattle.automata.specs.Unfolding.{configurations}
use Rattle.automata.proofs.Laws.{iff-trans, or_iff, reaching_more}
use Rattle.file_fields.specs.Parts.{automaton_number, fault, number_of}
use Rattle.format.specs.Reading.{reading_of}
use Rattle.format.specs.Refusals.{FirstHolds, Refusals, fault_of, reason_of, told_number, told_reason, unless_refused}
use Rattle.file_fields.specs.declared.Counts.{Counts}
use Rattle.std.specs.Prelude.{Ok, Err, None, Option, Result, Some}
use borrow.Author.Tests.{leb-true}
use Rattle.file_fields.specs.declared.Automaton.{Automaton as Blamed}
use Rattle.file_fields.specs.declared.Automaton.TheVariants.{First, Second}
use Rattle.file_fields.specs.declared.Reason.TheVariants.{EndsInsideAField, Mark, Version, HeaderCount, LettersNotAscending, FinalFlag, ArcSource, ArcLetter, ArcTarget, ArcOperations, Operation, BytesAfterTheLastArc, JoinedBeyondALimit, TooManyConfigurations, TooManyPlainArcs, TooManyLiveSets, TooLittleMemoryLent, OutputTooShort, LengthTooLarge, BadRanges}
use Rattle.file_fields.specs.declared.Fault.{Fault}
use Rattle.file_fields.specs.declared.Reason.{Reason}

-- ---- tests and conditions
-- a test decides a condition, and both lead to the same refusal
pub record Decides (t : Bool × Reason × Option Blamed) (c : Type 0 × ℕ × ℕ) : Type 0 where
  pub decides : T t.0 ↔ c.0
  pub number : c.0 → number_of t.1 ≡ c.1
  pub automaton : automaton_number t.2 ≡ c.2

-- each test decides the condition at its place
abbrev pub Decide : Refusals → List (Type 0 × ℕ × ℕ) → Type 0
Decide [] [] = Unit {0}
Decide [] (c ∷ l) = ⊥
Decide (t ∷ s) [] = ⊥
Decide (t ∷ s) (c ∷ l) = Decides t c × Decide s l

-- ---- the first condition that holds
abbrev pub NoneHolds : List (Type 0 × ℕ × ℕ) → Type 0
NoneHolds [] = Unit {0}
NoneHolds (c ∷ l) = (¬ c.0) × NoneHolds l

pub none_first : (l : List (Type 0 × ℕ × ℕ)) → NoneHolds l → FirstHolds l 0 0
none_first [] h = (refl, refl)
none_first (c ∷ l) h = inr (h.0, none_first l h.1)

one-first : (l : List (Type 0 × ℕ × ℕ)) {n b m k : ℕ} → FirstHolds l n b → FirstHolds l m k → (n ≡ m) × (b ≡ k)
one-first [] f g = (f.0 ∙ sym g.0, f.1 ∙ sym g.1)
one-first (c ∷ l) (inl f) (inl g) = (sym f.1 ∙ g.1, sym f.2 ∙ g.2)
one-first (c ∷ l) (inl f) (inr g) = absurd (g.0 f.0)
one-first (c ∷ l) (inr f) (inl g) = absurd (f.0 g.0)
one-first (c ∷ l) (inr f) (inr g) = one-first l f.1 g.1

-- its number and automaton are told of no other
pub first-exactly : (l : List (Type 0 × ℕ × ℕ)) {n b : ℕ} → FirstHolds l n b → (m k : ℕ) → ((n ≡ m) × (b ≡ k)) ↔ FirstHolds l m k
first-exactly l {n} {b} f m k = (λ e. subst (λ (i : ℕ). FirstHolds l m i) e.1 (subst (λ (i : ℕ). FirstHolds l i b) e.0 f), one-first l f)

-- where it has a number, one holds
pub first_some : (l : List (Type 0 × ℕ × ℕ)) (n b : ℕ) → 0 < n → FirstHolds l n b → ¬ NoneHolds l
first_some l n b pos f h = omega (arith, pos, (one-first l f (none_first l h)).0)

-- ---- what is answered
-- no reason has the number 0
pub number-above : (r : Reason) → 0 < number_of r
number-above r = leb-true 1 (number_of r) (go r)
  where
    go : (r : Reason) → leb 1 (number_of r) ≡ true
    go EndsInsideAField = refl
    go Mark = refl
    go Version = refl
    go HeaderCount = refl
    go LettersNotAscending = refl
    go FinalFlag = refl
    go ArcSource = refl
    go ArcLetter = refl
    go ArcTarget = refl
    go ArcOperations = refl
    go Operation = refl
    go BytesAfterTheLastArc = refl
    go JoinedBeyondALimit = refl
    go TooManyConfigurations = refl
    go TooManyPlainArcs = refl
    go TooManyLiveSets = refl
    go TooLittleMemoryLent = refl
    go OutputTooShort = refl
    go LengthTooLarge = refl
    go BadRanges = refl

-- the reason of a number, and the automaton of one
abbrev by_number : ℕ → Reason
by_number n =
    cond (eqb n 1) EndsInsideAField (
    cond (eqb n 2) Mark (
    cond (eqb n 3) Version (
    cond (eqb n 4) HeaderCount (
    cond (eqb n 5) LettersNotAscending (
    cond (eqb n 6) FinalFlag (
    cond (eqb n 7) ArcSource (
    cond (eqb n 32) ArcLetter (
    cond (eqb n 33) ArcTarget (
    cond (eqb n 34) ArcOperations (
    cond (eqb n 8) Operation (
    cond (eqb n 9) BytesAfterTheLastArc (
    cond (eqb n 11) JoinedBeyondALimit (
    cond (eqb n 21) TooManyConfigurations (
    cond (eqb n 22) TooManyPlainArcs (
    cond (eqb n 23) TooManyLiveSets (
    cond (eqb n 24) TooLittleMemoryLent (
    cond (eqb n 25) OutputTooShort (
    cond (eqb n 31) LengthTooLarge (
    BadRanges
    )))))))))))))))))))

number-back : (r : Reason) → by_number (number_of r) ≡ r
number-back EndsInsideAField = refl
number-back Mark = refl
number-back Version = refl
number-back HeaderCount = refl
number-back LettersNotAscending = refl
number-back FinalFlag = refl
number-back ArcSource = refl
number-back ArcLetter = refl
number-back ArcTarget = refl
number-back ArcOperations = refl
number-back Operation = refl
number-back BytesAfterTheLastArc = refl
number-back JoinedBeyondALimit = refl
number-back TooManyConfigurations = refl
number-back TooManyPlainArcs = refl
number-back TooManyLiveSets = refl
number-back TooLittleMemoryLent = refl
number-back OutputTooShort = refl
number-back LengthTooLarge = refl
number-back BadRanges = refl

-- no two reasons have one number, and no two automata
pub number-one : (r s : Reason) → number_of r ≡ number_of s → r ≡ s
number-one r s e = sym (number-back r) ∙ ap by_number e ∙ number-back s

abbrev by_place : ℕ → Option Blamed
by_place n = cond (eqb n 1) (Some First) (cond (eqb n 2) (Some Second) None)

place-back : (a : Option Blamed) → by_place (automaton_number a) ≡ a
place-back None = refl
place-back (Some First) = refl
place-back (Some Second) = refl

pub automaton-one : (a b : Option Blamed) → automaton_number a ≡ automaton_number b → a ≡ b
automaton-one a b e = sym (place-back a) ∙ ap by_place e ∙ place-back b

module _ {A : Type 0} (refused : Reason → Option Blamed → A) (answer : A) where
  -- no condition holds, and nothing is refused; or the first that holds is refused
  abbrev pub Outcome : List (Type 0 × ℕ × ℕ) → A → Type 0
  Outcome l r = (NoneHolds l × (r ≡ answer)) ⊎ ((why : Reason) × (whose : Option Blamed) × FirstHolds l (number_of why) (automaton_number whose) × (r ≡ refused why whose))

  -- THE LAW of refusals.
  pub refused-or_not : (s : Refusals) (l : List (Type 0 × ℕ × ℕ)) → Decide s l → Outcome l (unless_refused refused s answer)
  unfolding unless_refused
  refused-or_not [] [] d = inl (tt, refl)
  refused-or_not [] (c ∷ l) d = absurd d
  refused-or_not (t ∷ s) [] d = absurd d
  refused-or_not (t ∷ s) (c ∷ l) d = go t.0 d.0.decides (refused-or_not s l d.1)
    where
      go : (test : Bool) → T test ↔ c.0 → Outcome l (unless_refused refused s answer) → Outcome (c ∷ l) (cond test (refused t.1 t.2) (unless_refused refused s answer))
      go true f ih = let h = f.0 tt in inr (t.1, t.2, inl (h, sym (d.0.number h), sym d.0.automaton), refl)
      go false f ih = ⊎_elim (λ h. inl ((f.1, h.0), h.1)) (λ h. inr (h.0, h.1, inr (f.1, h.2), h.3)) ih

-- ---- tests that more than one call makes
pub decided : {P : Type 0} (b : Bool) (why : Reason) (whose : Option Blamed) → T b ↔ P → Decides (b, why, whose) (P, number_of why, automaton_number whose)
decided b why whose f = record { decides = f; number = λ _. refl; automaton = refl }

pub less-iff : (m n : ℕ) → T (ltb m n) ↔ (m < n)
less-iff m n = (ltb→lt m n, lt→ltb m n)

-- one number is less than another
pub less-decided : (i j : ℕ) (why : Reason) (whose : Option Blamed) → Decides (ltb i j, why, whose) (i < j, number_of why, automaton_number whose)
less-decided i j why whose = decided _ why whose (less-iff i j)

-- one number is less than another, or a second one is
pub either_less : (k l m n : ℕ) → T (ltb k l || ltb m n) ↔ ((k < l) ⊎ (m < n))
either_less k l m n = iff-trans (or_iff (ltb k l) (ltb m n)) (⊎_elim (λ t. inl (ltb→lt k l t)) (λ t. inr (ltb→lt m n t)), ⊎_elim (λ t. inl (lt→ltb k l t)) (λ t. inr (lt→ltb m n t)))

pub at_least : (m n : ℕ) → ¬ (m < n) → n ≤ m
at_least m n h = go (dec_lt m n)
  where
    go : Dec (m < n) → n ≤ m
    go (yes l) = absurd (h l)
    go (no l) = omega arith

-- an automaton reaches more than L configurations
pub reach-decided : (x : Automaton) (L : ℕ) (why : Reason) (whose : Option Blamed) → Decides (ltb L (length (configurations x L)), why, whose) (MoreThan (Reachable x) L, number_of why, automaton_number whose)
reach-decided x L why whose = decided _ why whose (iff-trans (less-iff L (length (configurations x L))) (reaching_more x L))

-- a file has a fault; one that has none is valid
pub fault_decided : (file : List ℕ) (whose : Option Blamed) → Decides (ltb 0 (fault_of file), reason_of file, whose) (0 < fault_of file, fault_of file, automaton_number whose)
fault_decided file whose = record { decides = less-iff 0 (fault_of file); number = go (reading_of file); automaton = refl }
  where
    go : (r : Result Counts Fault) → 0 < told_number r → number_of (told_reason r) ≡ told_number r
    go (Ok c) h = absurd (omega (arith, h))
    go (Err f) h = refl

pub has-fault : (file : List ℕ) (r : Reason) {place : ℕ} → reading_of file ≡ fault r place → 0 < fault_of file
has-fault file r e = omega (arith, number-above r, ap told_number e)

pub no_fault : (file : List ℕ) → fault_of file ≡ 0 → (c : Counts) × (reading_of file ≡ Ok c)
no_fault file z = go (reading_of file) refl
  where
    go : (r : Result Counts Fault) → reading_of file ≡ r → (c : Counts) × (reading_of file ≡ Ok c)
    go (Ok c) e = (c, e)
    go (Err f) e = absurd (omega (arith, has-fault file f.reason e))
