-- Verdicts: the answer for two automata within the limits, from the verdict: 23, Same or Different (document 01, 'Comparing').
use mathlib.Core.Path.{◌∙◌, ◌≡◌, ap, refl, sym}
use mathlib.Core.List.{List, ◌++◌, map}
use Prim.Native.Nat.{ℕ, ◌≤◌, ◌<◌}
use borrow.Author.Tests.{le-ltb, lt-ltb}
use lib.ListN.{drop, get_or, length, length-map}
use Rattle.automata.specs.Automaton.{Automaton}
use Rattle.automata.specs.Pairs.{Verdict, different, pairs, same, verdict}
use Rattle.std.specs.Prelude.{None}
use Rattle.file_fields.specs.declared.Reason.TheVariants.{TooManyLiveSets}
use Rattle.format.specs.Refusals.{unless_refused}
use Rattle.compare.specs.Answers.{Answers}
use Rattle.compare_promise.specs.Comparing.{answer_of, buffer_of, bytes_in, count_refusals, refused}
use Rattle.compare_promise.specs.declared.Comparison.TheVariants.{Different, Same}

module _ (x y : Automaton) (L P : ℕ) where
  -- there are too many pairs
  pub answers-many : (old : List ℕ) → P < length (pairs x y L P) → Answers L P (count_refusals L P x y) x y old old (refused TooManyLiveSets None)
  unfolding unless_refused count_refusals
  answers-many old h = record { answer = rw (lt-ltb P (length (pairs x y L P)) h); buffer = refl }

  -- nothing is refused: the verdict tells the answer
  told : (v : Verdict) → length (pairs x y L P) ≤ P → verdict x y L P ≡ v → answer_of v ≡ unless_refused refused (count_refusals L P x y) (answer_of (verdict x y L P))
  unfolding unless_refused count_refusals
  told v h e = rw (le-ltb P (length (pairs x y L P)) h, e)

  -- no pair differs
  pub answers-same : (old : List ℕ) (n : ℕ) → length (pairs x y L P) ≤ P → verdict x y L P ≡ same n → Answers L P (count_refusals L P x y) x y old old (Same n)
  answers-same old n h e = record { answer = told (same n) h e; buffer = refl }

  -- the first pair that differs gives the word
  pub answers-different : (old new : List ℕ) (n taker size : ℕ) (v : List ℕ) → length (pairs x y L P) ≤ P → verdict x y L P ≡ different n taker v → size ≡ length v
      → new ≡ map (λ (l : ℕ). get_or x.alphabet l 0) v ++ drop size old → Answers L P (count_refusals L P x y) x y old new (Different n taker size)
  answers-different old new n taker size v h e long put = record {
    answer = ap (Different n taker) long ∙ told (different n taker v) h e;
    buffer = put ∙ ap (λ (k : ℕ). word ++ drop k old) many ∙ ap (λ (d : Verdict). buffer_of (Different n taker size) (bytes_in x.alphabet d) old) (sym e);
  }
    where
      word : List ℕ
      word = map (λ (l : ℕ). get_or x.alphabet l 0) v

      many : size ≡ length word
      many = long ∙ sym (length-map v (λ (l : ℕ). get_or x.alphabet l 0))
