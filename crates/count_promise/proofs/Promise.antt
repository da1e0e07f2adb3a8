-- Promise: what the definition of counting says of the bytes handed in (document 02, change 2, and the exact condition of each refusal).
use mathlib.Core.Path.{◌∙◌, ◌≡◌, refl, subst, sym}
use mathlib.Core.Logic.{◌↔◌, inl, inr, ⊎_elim}
use mathlib.Core.Bool.{Bool}
use mathlib.Core.List.{List}
use Prim.Native.Nat.{ℕ, ◌^◌, ◌<◌, ◌≤◌}
use native.Mathlib.Omega.{arith}
use lib.ListN.{length}
use Rattle.automata.specs.Automaton.{Automaton, Reachable, SameEnds, letters}
use Rattle.automata.specs.Counting.{MoreThan}
use Rattle.automata.specs.Unfolding.{configurations, live_set}
use Rattle.automata.proofs.Laws.{both-many, counting-words, living_same, reaching_more}
use Rattle.format.specs.Decoding.{automaton_of}
use Rattle.format.specs.Refusals.{FirstHolds, Refusals, fault_of, refused as refusal, unless_refused}
use Rattle.file_laws.proofs.Laws.{NoneHolds, Outcome, at_least, first-exactly, first_some, none_first, number-above, refused-or_not}
use Rattle.count_promise.specs.Promised.{Premises, Promised, conditions}
use Rattle.count_promise.specs.WordCounts.{counts_of, refusals, told, word_count_of, word_count_within}
use Rattle.count_promise.specs.declared.WordCount.{WordCount}
use Rattle.std.specs.Prelude.{Option, Result}
use Rattle.file_fields.specs.declared.Automaton.{Automaton as Blamed}
use Rattle.file_fields.specs.declared.Reason.{Reason}
use Rattle.file_fields.specs.declared.Refusal.{Refusal}
use Rattle.file_fields.specs.Parts.{automaton_number, number_of}
use Rattle.count_promise.proofs.Refusals.{refusals-decide}

module _ (file : List ℕ) (size words : ℕ) where
  abbrev x : Automaton
  x = automaton_of file

  abbrev cs : List (Type 0 × ℕ × ℕ)
  cs = conditions file size words

  -- ---- the premises are that no condition of a refusal holds
  none_of : Premises file size words → NoneHolds cs
  none_of p = (
    λ h. omega (arith, p.enough_words),
    (λ h. omega (arith, p.valid), (⊎_elim (λ h. omega (arith, p.short)) (λ h. omega (arith, p.countable)), (p.few_configurations, (p.few_sets, tt)))),
  )

  Premises-of : NoneHolds cs → Premises file size words
  Premises-of h =
      let z = at_least 0 (fault_of file) h.1.0 in
      record {
        enough_words = at_least words 8192 h.0;
        valid = omega arith;
        short = at_least 64 size (λ k. h.1.1.0 (inl k));
        countable = at_least 18446744073709551615 (letters x ^ size) (λ k. h.1.1.0 (inr k));
        few_configurations = h.1.1.1.0;
        few_sets = h.1.1.1.1.0;
      }

  -- ---- what 21 rules out
  few : ¬ MoreThan (Reachable x) 256 → length (configurations x 256) ≤ 256
  few h = at_least 256 (length (configurations x 256)) (λ k. h ((reaching_more x 256).0 k))

  by_runs : ¬ MoreThan (Reachable x) 256 → (v w : List ℕ) → (live_set x 256 v ≡ live_set x 256 w) ↔ SameEnds x v w
  by_runs h = living_same x 256 (few h)

  -- ---- the whole answer
  refused : (why : Reason) (whose : Option Blamed) → FirstHolds cs (number_of why) (automaton_number whose) → Promised file size words (told (refusal why whose))
  refused why whose f = record {
    answers = (λ z. absurd (omega (arith, number-above why)), λ p. absurd (none p));
    accepted = λ p. absurd (none p);
    rejected = λ p. absurd (none p);
    total = λ p. absurd (none p);
    one_set = by_runs;
    refuses = first-exactly cs f;
    none_told = λ _. (refl, refl);
  }
    where
      none : ¬ Premises file size words
      none p = first_some cs (number_of why) (automaton_number whose) (number-above why) f (none_of p)

  answered : Premises file size words → Promised file size words (told (counts_of 256 x size))
  answered p = record {
    answers = (λ _. p, λ _. refl);
    accepted = λ _. (counting-words x 256 (few p.few_configurations) size).0;
    rejected = λ _. (counting-words x 256 (few p.few_configurations) size).1;
    total = λ _. both-many x 256 size;
    one_set = by_runs;
    refuses = first-exactly cs (none_first cs (none_of p));
    none_told = λ h. absurd (h refl);
  }

  -- THE PROMISE of counting, from the equation of its contract.
  pub counting-promised : (r : Result WordCount Refusal) → r ≡ word_count_of file size words → Promised file size words (told r)
  unfolding word_count_of word_count_within
  counting-promised r a = either (refused-or_not refusal answer all cs (refusals-decide file size words))
    where
      all : Refusals
      all = refusals 256 512 64 18446744073709551615 file size words

      answer : Result WordCount Refusal
      answer = counts_of 256 x size

      either : Outcome refusal answer cs (unless_refused refusal all answer) → Promised file size words (told r)
      either (inl h) = subst (λ (c : Result WordCount Refusal). Promised file size words (told c)) (sym (a ∙ h.1)) (answered (Premises-of h.0))
      either (inr h) = subst (λ (c : Result WordCount Refusal). Promised file size words (told c)) (sym (a ∙ h.3)) (refused h.0 h.1 h.2)
