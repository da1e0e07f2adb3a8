-- Promise: what the definition of the answer says of the bytes handed in (document 02, change 7, and the exact condition of each refusal).
use mathlib.Core.Path.{◌∙◌, ◌≡◌, refl, subst, sym}
use mathlib.Core.Logic.{◌↔◌, inl, inr}
use mathlib.Core.Bool.{Bool, false, not, true}
use mathlib.Core.List.{List}
use Prim.Native.Nat.{ℕ, ◌<◌, ◌≤◌}
use native.Mathlib.Omega.{arith}
use lib.Dec.{T}
use lib.ListN.{length}
use Rattle.automata.specs.Automaton.{Accepts, Automaton, Reachable, SameEnds, letters}
use Rattle.automata.specs.Counting.{MoreThan}
use Rattle.automata.specs.Lists.{any}
use Rattle.automata.specs.LiveSets.{accepts_set}
use Rattle.automata.specs.Unfolding.{configurations, live_set}
use Rattle.automata.proofs.Laws.{iff-trans, living_same, reaching_more}
use Rattle.fillings.specs.Fillings.{Fills, Range}
use Rattle.fillings.proofs.Laws.{fillable, filling_accepted, filling_rejected, set-accepts}
use Rattle.format.specs.Decoding.{automaton_of}
use Rattle.format.specs.Refusals.{FirstHolds, Refusals, fault_of, refused as refusal, unless_refused}
use Rattle.file_laws.proofs.Laws.{NoneHolds, Outcome, at_least, first-exactly, first_some, none_first, number-above, refused-or_not}
use Rattle.ranges_promise.specs.Promised.{AcceptedFilling, Premises, Promised, RejectedFilling, bytes_of, conditions}
use Rattle.ranges_promise.specs.RangeAnswers.{filled_sets, fillings_of, judged, ranged_of, ranged_within, ranges_of, refusals, told}
use Rattle.ranges_promise.specs.declared.Fillings.{Fillings}
use Rattle.std.specs.Prelude.{Ok, Option, Result}
use Rattle.file_fields.specs.declared.Automaton.{Automaton as Blamed}
use Rattle.file_fields.specs.declared.Reason.{Reason}
use Rattle.file_fields.specs.declared.Refusal.{Refusal}
use Rattle.file_fields.specs.Parts.{automaton_number, number_of}
use Rattle.ranges_promise.proofs.Refusals.{bytes-again, refusals-decide, sound-ranges}

module _ (file bytes : List ℕ) (words : ℕ) where
  abbrev x : Automaton
  x = automaton_of file

  abbrev rs : List Range
  rs = ranges_of bytes

  abbrev cs : List (Type 0 × ℕ × ℕ)
  cs = conditions file bytes words

  -- every filling is accepted, and none is
  abbrev Every : Type 0
  Every = (word : List ℕ) → Fills rs word → Accepts x word

  abbrev None : Type 0
  None = (word : List ℕ) → Fills rs word → ¬ Accepts x word

  -- ---- the premises are that no condition of a refusal holds
  none_of : Premises file bytes words → NoneHolds cs
  none_of p = (λ h. omega (arith, p.enough_words), (λ h. omega (arith, p.valid), (p.sound, (p.few_configurations, (p.few_sets, tt)))))

  Premises-of : NoneHolds cs → Premises file bytes words
  Premises-of h =
      let z = at_least 0 (fault_of file) h.1.0 in
      record {
        enough_words = at_least words 8192 h.0;
        valid = omega arith;
        sound = h.1.1.0;
        few_configurations = h.1.1.1.0;
        few_sets = h.1.1.1.1.0;
      }

  -- ---- what 21 rules out
  few : ¬ MoreThan (Reachable x) 256 → length (configurations x 256) ≤ 256
  few h = at_least 256 (length (configurations x 256)) (λ k. h ((reaching_more x 256).0 k))

  by_runs : ¬ MoreThan (Reachable x) 256 → (v w : List ℕ) → (live_set x 256 v ≡ live_set x 256 w) ↔ SameEnds x v w
  by_runs h = living_same x 256 (few h)

  -- ---- what 35 rules out
  filled : Premises file bytes words → (word : List ℕ) × Fills rs word
  filled p = fillable rs (sound-ranges (letters x) bytes p.sound)

  written : Premises file bytes words → bytes_of rs ≡ bytes
  written p = bytes-again bytes (λ e. p.sound (inl e))

  -- ---- where the word is judged
  module _ (p : Premises file bytes words) where
    -- where no filling is rejected every one is accepted, since acceptance is decided
    pub none-rejected : ¬ RejectedFilling x rs → Every
    none-rejected n w f = go (accepts_set x 256 (live_set x 256 w)) (set-accepts x 256 (few p.few_configurations) w)
      where
        go : (b : Bool) → T b ↔ Accepts x w → Accepts x w
        go true g = g.0 tt
        go false g = absurd (n (record { word = w; fills = f; rejects = g.1 }))

    -- what is promised of the three
    told-as : (always sometimes never : Bool) → T always ↔ Every → T sometimes ↔ (AcceptedFilling x rs × RejectedFilling x rs) → T never ↔ None
        → Promised file bytes words (record { number = 0; at_fault = 0; always = always; sometimes = sometimes; never = never })
    told-as always sometimes never a s n = record {
      answers = (λ _. p, λ _. refl);
      placed = written;
      always = (λ t. (p, a.0 t), λ h. a.1 h.1);
      never = (λ t. (p, n.0 t), λ h. n.1 h.1);
      sometimes = (λ t. let b = s.0 t in (p, b.0, b.1), λ h. s.1 (h.1, h.2));
      fillable = filled;
      one_set = by_runs;
      refuses = first-exactly cs (none_first cs (none_of p));
    }

    -- the three by the two that are tested
    judging : (accepted rejected : Bool) → T accepted ↔ AcceptedFilling x rs → T rejected ↔ RejectedFilling x rs → Promised file bytes words (told (Ok (judged accepted rejected)))
    judging true true a r =
        let y = a.0 tt in
        let n = r.0 tt in
        told-as false true false (λ t. absurd t, λ h. n.rejects (h n.word n.fills)) (λ t. (y, n), λ h. tt) (λ t. absurd t, λ h. h y.word y.fills y.accepts)
    judging true false a r =
        let y = a.0 tt in
        told-as true false false (λ t. none-rejected r.1, λ h. tt) (λ t. absurd t, λ h. r.1 h.1) (λ t. absurd t, λ h. h y.word y.fills y.accepts)
    judging false rejected a r =
        let f = filled p in
        told-as
        false
        false
        true
        (λ t. absurd t, λ h. a.1 (record { word = f.0; fills = f.1; accepts = h f.0 f.1 }))
        (λ t. absurd t, λ h. a.1 h.0)
        (λ t w g k. a.1 (record { word = w; fills = g; accepts = k }), λ h. tt)

    some-accepted : T (any (accepts_set x 256) (filled_sets 256 x bytes)) ↔ AcceptedFilling x rs
    unfolding filled_sets
    some-accepted = iff-trans (filling_accepted x 256 (few p.few_configurations) rs) (
      λ f. record { word = f.0; fills = f.1; accepts = f.2 },
      λ f. (f.word, f.fills, f.accepts),
    )

    some-rejected : T (any (λ S. not (accepts_set x 256 S)) (filled_sets 256 x bytes)) ↔ RejectedFilling x rs
    unfolding filled_sets
    some-rejected = iff-trans (filling_rejected x 256 (few p.few_configurations) rs) (
      λ f. record { word = f.0; fills = f.1; rejects = f.2 },
      λ f. (f.word, f.fills, f.rejects),
    )

    answered : Promised file bytes words (told (Ok (fillings_of 256 x bytes)))
    unfolding fillings_of
    answered = judging (any (accepts_set x 256) (filled_sets 256 x bytes)) (any (λ S. not (accepts_set x 256 S)) (filled_sets 256 x bytes)) some-accepted some-rejected

  -- ---- the whole answer
  refused : (why : Reason) (whose : Option Blamed) → FirstHolds cs (number_of why) (automaton_number whose) → Promised file bytes words (told (refusal why whose))
  refused why whose f = record {
    answers = (λ z. absurd (omega (arith, number-above why)), λ p. absurd (none p));
    placed = written;
    always = (λ t. absurd t, λ h. none h.0);
    never = (λ t. absurd t, λ h. none h.0);
    sometimes = (λ t. absurd t, λ h. none h.0);
    fillable = filled;
    one_set = by_runs;
    refuses = first-exactly cs f;
  }
    where
      none : ¬ Premises file bytes words
      none p = first_some cs (number_of why) (automaton_number whose) (number-above why) f (none_of p)

  -- THE PROMISE of a word with ranges, from the equation of the contract.
  pub ranging_promised : (r : Result Fillings Refusal) → r ≡ ranged_of file bytes words → Promised file bytes words (told r)
  unfolding ranged_of ranged_within
  ranging_promised r a = either (refused-or_not refusal answer all cs (refusals-decide file bytes words))
    where
      all : Refusals
      all = refusals 256 512 file bytes words

      answer : Result Fillings Refusal
      answer = Ok (fillings_of 256 x bytes)

      either : Outcome refusal answer cs (unless_refused refusal all answer) → Promised file bytes words (told r)
      either (inl h) = subst (λ (c : Result Fillings Refusal). Promised file bytes words (told c)) (sym (a ∙ h.1)) (answered (Premises-of h.0))
      either (inr h) = subst (λ (c : Result Fillings Refusal). Promised file bytes words (told c)) (sym (a ∙ h.3)) (refused h.0 h.1 h.2)
