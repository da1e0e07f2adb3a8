-- OverLaws: what is answered of two files by their letters and new numbers is answered over the letters of both.
use mathlib.Core.Path.{subst}
use mathlib.Core.List.{List}
use Prim.Native.Nat.{ℕ}
use Rattle.automata.specs.Automaton.{Automaton}
use Rattle.format.specs.Decoding.{automaton_of}
use Rattle.format.specs.Refusals.{Refusals}
use Rattle.relettering.specs.Relettering.{relettered}
use Rattle.file_fields.specs.declared.Counts.{Counts}
use Rattle.file_pair.specs.Lettered.{OverBoth, automaton_over}
use Rattle.file_pair.specs.Pair.{letters_of}
use Rattle.compare_promise.specs.declared.Comparison.{Comparison}
use Rattle.compare.specs.Answers.{AnswersAtLimits, AnswersOver}

pub answers-over : {a b : Counts} {s t one two all old new : List ℕ} {r : Comparison} (left : Automaton → Automaton → Refusals) → OverBoth a b s t one two all
    → AnswersAtLimits left (automaton_over one all s) (automaton_over two all t) old new r → AnswersOver left s t old new r
answers-over {s = s} {t = t} {one = one} {two = two} {all = all} {old = old} {new = new} {r = r} left o h =
    subst (λ (x : Automaton). AnswersAtLimits left x (relettered (letters_of s t) (automaton_of t)) old new r) o.first (subst (λ (y : Automaton). AnswersAtLimits left (automaton_over one all s) y old new r) o.second h)
