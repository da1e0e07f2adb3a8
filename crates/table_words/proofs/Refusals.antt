-- Refusals: what the call answers by what opening the file answers: its refusal, or the words that the automaton judges.
use mathlib.Core.Path.{◌≡◌}
use mathlib.Core.List.{List, [], map}
use Prim.Native.Nat.{ℕ}
use Rattle.std.specs.Prelude.{Err, Ok}
use Rattle.file_fields.specs.declared.Refusal.{Refusal}
use Rattle.format.specs.Decoding.{automaton_of}
use Rattle.format.specs.Refusals.{refused}
use Rattle.table.specs.Membership.{judged, membership_of}
use Rattle.table.specs.Opening.{opened_of}
use Rattle.table.specs.declared.Opened.{Opened}
use Rattle.table.proofs.Laws.{opened-passed, opened-refused}
use Rattle.table_words.specs.Words.{answers_of, judged_of, packed, verdicts_of, words_in, words_judged}

module _ (file : List ℕ) (words : ℕ) where
  module _ (bytes : List ℕ) (separator room : ℕ) where
    pub call_refused : {r : Refusal} → opened_of file words ≡ Err r → judged_of file bytes separator words room ≡ Err r
    unfolding judged_of
    call_refused e = opened-refused file words refused [] (Ok (words_judged (words_in separator room bytes))) e

    pub call_judged : {o : Opened} → opened_of file words ≡ Ok o → judged_of file bytes separator words room ≡ Ok (words_judged (words_in separator room bytes))
    unfolding judged_of
    call_judged e = opened-passed file words refused [] (Ok (words_judged (words_in separator room bytes))) e

  -- each word's answer is that of membership
  pub answers-are : {o : Opened} → opened_of file words ≡ Ok o → (l : List (List ℕ)) → answers_of file l words ≡ verdicts_of (automaton_of file) l
  unfolding membership_of
  answers-are e l = λ i. map (λ word. packed (opened-passed file words refused [] (Ok (judged 256 (automaton_of file) word)) e i)) l
