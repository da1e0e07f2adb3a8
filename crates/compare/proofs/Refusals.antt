-- Refusals: the refusals of comparing in their order, one test after the other.
use mathlib.Core.Path.{◌≡◌, ◌∙◌, ap, refl, sym}
use mathlib.Core.Bool.{Bool, false, true, ◌||◌}
use mathlib.Core.List.{List, [], ◌∷◌, ◌++◌}
use Prim.Native.Nat.{ℕ, ◌≤◌, ◌<◌}
use native.Mathlib.Omega.{arith}
use borrow.Author.Tests.{le-ltb, lt-ltb}
use lib.Dec.{ltb}
use lib.ListN.{length}
use Rattle.automata.specs.Automaton.{Automaton}
use Rattle.automata.specs.Pairs.{verdict}
use Rattle.automata.specs.Unfolding.{configurations, plain_arcs}
use Rattle.relettering.specs.Relettering.{relettered, with_letters}
use Rattle.relettering.proofs.Laws.{configurations-same, plain-many}
use Rattle.table_explore.specs.Explores.{explored_of}
use Rattle.std.specs.Prelude.{Err, None, Ok, Option, Some}
use Rattle.std.proofs.Common.{unwrap_or}
use Rattle.format.specs.Decoding.{automaton_of}
use Rattle.format.specs.Refusals.{Refusals, unless_refused}
use Rattle.file_fields.specs.declared.Automaton.{Automaton as Blamed}
use Rattle.file_fields.specs.declared.Automaton.TheVariants.{First, Second}
use Rattle.file_fields.specs.declared.Reason.{Reason}
use Rattle.file_fields.specs.declared.Reason.TheVariants.{JoinedBeyondALimit, TooLittleMemoryLent, TooManyConfigurations, TooManyPlainArcs}
use Rattle.file_fields.specs.declared.Refusal.{Refusal}
use Rattle.file_pair.specs.Pair.{files_of, letters_of, pair_refusals}
use Rattle.file_pair.specs.declared.Pair.{Pair}
use Rattle.file_pair.proofs.Laws.{files-many, files-passed, files-refused}
use Rattle.table.proofs.Laws.{explored-few, explored-many}
use Rattle.compare.specs.Answers.{Answers, AnswersOfFiles, AnswersOver}
use Rattle.compare.specs.Loading.{limit_of}
use Rattle.compare_promise.specs.Comparing.{answer_of, buffer_of, comparison_of, count_refusals, limit_refusals, refusals, refused, shown_word, table_refusals, verdict_of}
use Rattle.compare_promise.specs.declared.Comparison.{Comparison}

module _ {L P : ℕ} {x y : Automaton} {left : Refusals} where
  -- a test that does not hold is passed, one that holds gives its refusal
  pub passed : {old new : List ℕ} {r : Comparison} (b : Bool) (why : Reason) (whose : Option Blamed) → b ≡ false → Answers L P left x y old new r → Answers L P ((b, why, whose) ∷ left) x y old new r
  unfolding unless_refused
  passed b why whose e a = record { answer = rw e a.answer; buffer = a.buffer }

  pub stopped : (b : Bool) (why : Reason) (whose : Option Blamed) (old : List ℕ) → b ≡ true → Answers L P ((b, why, whose) ∷ left) x y old old (refused why whose)
  unfolding unless_refused
  stopped b why whose old e = record { answer = rw e; buffer = refl }

-- ---- 21 and 22 of the automaton z
module _ (z : Automaton) (L M : ℕ) where
  -- the reason of the refusal, from what exploring answers
  pub limit_configurations : None ≡ explored_of z L → Some TooManyConfigurations ≡ limit_of L M z
  unfolding limit_refusals unless_refused
  limit_configurations e = rw (lt-ltb L (length (configurations z L)) (explored-many z L e))

  pub limit_arcs : {count plain : ℕ} → Some (record { count = count; plain = plain }) ≡ explored_of z L → M < plain → Some TooManyPlainArcs ≡ limit_of L M z
  unfolding limit_refusals unless_refused
  limit_arcs {count} {plain} e h =
      let f = explored-few z L count plain e in
      rw (le-ltb L (length (configurations z L)) f.0, lt-ltb M (length (plain_arcs z L)) (omega (arith, f.2)))

  pub limit_none : {count plain : ℕ} → Some (record { count = count; plain = plain }) ≡ explored_of z L → plain ≤ M → None ≡ limit_of L M z
  unfolding limit_refusals unless_refused
  limit_none {count} {plain} e h =
      let f = explored-few z L count plain e in
      rw (le-ltb L (length (configurations z L)) f.0, le-ltb M (length (plain_arcs z L)) (omega (arith, f.2)))

  -- over other letters it is the same
  pub limit_same : (new all : List ℕ) → limit_of L M z ≡ limit_of L M (with_letters new all z)
  unfolding limit_refusals
  limit_same new all = rw (configurations-same z new all L, plain-many z new all L)

  module _ {P : ℕ} {x y : Automaton} (left : Refusals) (whose : Option Blamed) where
    -- it refuses where there is one, else what is left answers
    pub limit_stopped : {why : Reason} (old : List ℕ) → Some why ≡ limit_of L M z → Answers L P (limit_refusals L M z whose ++ left) x y old old (refused why whose)
    unfolding limit_refusals unless_refused
    limit_stopped {why} old is = go (ltb L (length (configurations z L))) (ltb M (length (plain_arcs z L))) is
      where
        go : (s t : Bool) → Some why ≡ unless_refused (λ why whose. Some why) ((s, TooManyConfigurations, None) ∷ (t, TooManyPlainArcs, None) ∷ []) None
            → Answers L P ((s, TooManyConfigurations, whose) ∷ (t, TooManyPlainArcs, whose) ∷ left) x y old old (refused why whose)
        go true t e = record { answer = ap (λ (m : Option Reason). refused (unwrap_or m why) whose) e; buffer = refl }
        go false true e = record { answer = ap (λ (m : Option Reason). refused (unwrap_or m why) whose) e; buffer = refl }
        go false false e = let q : ◌≡◌ {A = ℕ} 0 1 = cc in absurd (omega arith)

    pub limit_passed : {old new : List ℕ} {r : Comparison} → None ≡ limit_of L M z → Answers L P left x y old new r → Answers L P (limit_refusals L M z whose ++ left) x y old new r
    unfolding limit_refusals unless_refused
    limit_passed {old} {new} {r} is a = go (ltb L (length (configurations z L))) (ltb M (length (plain_arcs z L))) is
      where
        go : (s t : Bool) → None ≡ unless_refused (λ why whose. Some why) ((s, TooManyConfigurations, None) ∷ (t, TooManyPlainArcs, None) ∷ []) None
            → Answers L P ((s, TooManyConfigurations, whose) ∷ (t, TooManyPlainArcs, whose) ∷ left) x y old new r
        go true t e = let q : ◌≡◌ {A = ℕ} 0 1 = cc in absurd (omega arith)
        go false true e = let q : ◌≡◌ {A = ℕ} 0 1 = cc in absurd (omega arith)
        go false false e = record { answer = a.answer; buffer = a.buffer }

-- ---- 21 and 22 of the first, then of the second, at document 01's limits
abbrev behind_first : (x y : Automaton) → Refusals
behind_first x y = limit_refusals 256 2048 y (Some Second) ++ count_refusals 256 512 x y

module _ {x y : Automaton} where
  pub first-stopped : {why : Reason} (old : List ℕ) → Some why ≡ limit_of 256 2048 x → Answers 256 512 (table_refusals 256 2048 512 x y) x y old old (refused why (Some First))
  unfolding table_refusals
  first-stopped old one = limit_stopped x 256 2048 (behind_first x y) (Some First) old one

  module _ (one : None ≡ limit_of 256 2048 x) where
    pub second-stopped : {why : Reason} (old : List ℕ) → Some why ≡ limit_of 256 2048 y → Answers 256 512 (table_refusals 256 2048 512 x y) x y old old (refused why (Some Second))
    unfolding table_refusals
    second-stopped old two = limit_passed x 256 2048 (behind_first x y) (Some First) one (limit_stopped y 256 2048 (count_refusals 256 512 x y) (Some Second) old two)

    pub both-passed : {old new : List ℕ} {r : Comparison} → None ≡ limit_of 256 2048 y → Answers 256 512 (count_refusals 256 512 x y) x y old new r → Answers 256 512 (table_refusals 256 2048 512 x y) x y old new r
    unfolding table_refusals
    both-passed two a = limit_passed x 256 2048 (behind_first x y) (Some First) one (limit_passed y 256 2048 (count_refusals 256 512 x y) (Some Second) two a)

-- ---- the whole call
module _ (first second : List ℕ) where
  abbrev one : Automaton
  one = relettered (letters_of first second) (automaton_of first)

  abbrev two : Automaton
  two = relettered (letters_of first second) (automaton_of second)

  -- the files: a fault of the first, of the second; 11; neither
  pub files-fault : (old : List ℕ) {r : Refusal} → files_of first second ≡ Err r → AnswersOfFiles first second old old (refused r.reason r.automaton)
  files-fault old e = record { answer = sym (files-refused first second refused (table_refusals 256 2048 512 one two) (answer_of (verdict one two 256 512)) e); buffer = refl }

  module _ {p : Pair} (e : files_of first second ≡ Ok p) where
    pub letters-many : (old : List ℕ) → 64 < length (letters_of first second) → AnswersOfFiles first second old old (refused JoinedBeyondALimit None)
    letters-many old h = record { answer = sym (files-many first second refused (table_refusals 256 2048 512 one two) (answer_of (verdict one two 256 512)) e h); buffer = refl }

    pub files-both : {old new : List ℕ} {r : Comparison} → length (letters_of first second) ≤ 64 → AnswersOver (table_refusals 256 2048 512) first second old new r → AnswersOfFiles first second old new r
    files-both h a = record { answer = a.answer ∙ sym (files-passed first second refused (table_refusals 256 2048 512 one two) (answer_of (verdict one two 256 512)) e h); buffer = a.buffer }

  module _ (words : ℕ) (old : List ℕ) where
    -- the contract
    abbrev Whole : (new : List ℕ) → Comparison → Type 0
    Whole new r = (r ≡ comparison_of first second words (length old)) × (new ≡ buffer_of r (shown_word first second) old)

    opened : {new : List ℕ} {r : Comparison} → Answers 256 512 ((ltb words 8192 || ltb (length old) 512, TooLittleMemoryLent, None) ∷ pair_refusals first second ++ table_refusals 256 2048 512 one two) one two old new r → Whole new r
    unfolding comparison_of shown_word verdict_of refusals pair_refusals with_letters
    opened a = (a.answer, a.buffer)

    -- 24
    pub words-short : words < 8192 → Whole old (refused TooLittleMemoryLent None)
    words-short h = opened (stopped _ _ _ old (rw (lt-ltb words 8192 h)))

    pub buffer-short : 8192 ≤ words → length old < 512 → Whole old (refused TooLittleMemoryLent None)
    buffer-short g h = opened (stopped _ _ _ old (rw (le-ltb words 8192 g, lt-ltb (length old) 512 h)))

    -- it is passed
    pub memory_passed : {new : List ℕ} {r : Comparison} → 8192 ≤ words → 512 ≤ length old → AnswersOfFiles first second old new r → Whole new r
    memory_passed g h a = opened (passed _ _ _ (rw (le-ltb words 8192 g, le-ltb (length old) 512 h)) a)
