-- ComparisonLaws: the line made of the buffer that comparing leaves is the line of the shown word, and examples of lines.
use mathlib.Core.Path.{◌≡◌, refl, ap, sym, ◌∙◌, subst}
use mathlib.Core.Bool.{Bool, cond, false, true}
use mathlib.Core.List.{List, [], ◌∷◌, map}
use Prim.Native.Nat.{ℕ, ◌≤◌}
use native.Mathlib.Omega.{arith}
use lib.ListN.{drop, get_or, length, length-map}
use lib.Seq.{take_all, take_at}
use Rattle.automata.specs.Pairs.{Verdict, different, same}
use Rattle.relettering.specs.Relettering.{letters_of_both}
use Rattle.format.specs.Decoding.{automaton_of}
use Rattle.format.specs.Refusals.{Refusals, unless_refused}
use Rattle.file_fields.specs.declared.Automaton.TheVariants.{Second}
use Rattle.file_fields.specs.declared.Reason.TheVariants.{TooManyConfigurations}
use Rattle.std.specs.Prelude.{Some}
use Rattle.line_text.specs.Digits.{decimal_of, hex_of}
use Rattle.line_text.specs.Line.{ascii}
use Rattle.line_text.specs.Writing.{Writes}
use Rattle.compare_promise.specs.Comparing.{answer_of, buffer_of, bytes_in, comparison_of, refusals, refused, shown_word, verdict_of}
use Rattle.compare_promise.specs.declared.Comparison.{Comparison}
use Rattle.compare_promise.specs.declared.Comparison.TheVariants.{Different, Refused, Same}
use Rattle.line_comparison.specs.ComparisonLines.{comparison_line, line_of}
use Rattle.line_comparison.proofs.LengthLaws.{short}

-- ---- the buffer tells what the word tells
abbrev Alike : (word old : List ℕ) → Comparison → Type 0
Alike word old r = comparison_line r (buffer_of r word old) ≡ comparison_line r word

module _ (alphabet old : List ℕ) where
  -- of a verdict: the word is shown whole
  alike-answer : (v : Verdict) → Alike (bytes_in alphabet v) old (answer_of v)
  alike-answer (same n) = refl
  alike-answer (different n taker v) =
      let word = map (λ (l : ℕ). get_or alphabet l 0) v in
      let long = length-map v (λ (l : ℕ). get_or alphabet l 0) in
      rw (take_at word (drop (length word) old) (length v) long, take_all (length v) word (omega arith))

  -- of a list of refusals before it
  alike-after : (l : Refusals) (v : Verdict) → Alike (bytes_in alphabet v) old (unless_refused refused l (answer_of v))
  unfolding unless_refused
  alike-after [] v = alike-answer v
  alike-after (t ∷ l) v = go t.0 (alike-after l v)
    where
      go : (b : Bool) → Alike (bytes_in alphabet v) old (unless_refused refused l (answer_of v)) → Alike (bytes_in alphabet v) old (cond b (refused t.1 t.2) (unless_refused refused l (answer_of v)))
      go true later = refl
      go false later = later

alike : (first second old : List ℕ) (words buffer : ℕ) → Alike (shown_word first second) old (comparison_of first second words buffer)
unfolding comparison_of shown_word
alike first second old words buffer = alike-after (letters_of_both (automaton_of first) (automaton_of second)) old (refusals 256 2048 512 first second words buffer) (verdict_of first second)

-- ---- from the contract of comparing to that of the line
module _ (first second : List ℕ) (words : ℕ) (old : List ℕ) {new : List ℕ} {r : Comparison} (answer : r ≡ comparison_of first second words (length old)) (buffer : new ≡ buffer_of r (shown_word first second) old)
    (enough : words ≡ 8192) (long : length old ≡ 512) where
  sized : r ≡ comparison_of first second 8192 512
  sized = answer ∙ rw (enough, long)

  line-is : comparison_line r new ≡ line_of first second
  line-is =
      ap (comparison_line r) buffer
      ∙ subst (Alike (shown_word first second) old) (sym sized) (alike first second old 8192 512)
      ∙ ap (λ (q : Comparison). comparison_line q (shown_word first second)) sized

  -- the line of the answer, written from the buffer, is that of the two files, where the lent memory has the sizes that comparing asks for
  pub compared : {end : ℕ} {before after : List ℕ} → Writes (comparison_line r new) 0 end before after → Writes (line_of first second) 0 end before after
  compared {end} {before} {after} w = subst (λ (text : List ℕ). Writes text 0 end before after) line-is w

  -- it is short, since the shown word stands in the buffer
  pub compared_short : length new ≡ 512 → length (line_of first second) ≤ 1036
  compared_short kept = short first second 8192 512 (shown_word first second) old (subst (λ (q : Comparison). length (buffer_of q (shown_word first second) old) ≡ 512) sized (sym (ap length buffer) ∙ kept))

-- ---- examples, those of document 01 among them
told_same : comparison_line (Same 6) [] ≡ ascii "SAME 6 -\n"
unfolding decimal_of
told_same = refl

told-different : comparison_line (Different 6 1 2) (101 ∷ 101 ∷ 0 ∷ []) ≡ ascii "TAKES1 6 6565\n"
unfolding decimal_of hex_of
told-different = refl

told-empty : comparison_line (Different 12 2 0) (101 ∷ []) ≡ ascii "TAKES2 12 .\n"
unfolding decimal_of hex_of
told-empty = refl

told-refused : comparison_line (Refused (record { reason = TooManyConfigurations; automaton = Some Second })) [] ≡ ascii "REFUSED 21 2\n"
unfolding decimal_of
told-refused = refl
