-- Results: the struct of each answer: the fields are what the answer tells, as the promises have it. A number of 0 says that nothing was
-- refused; a refusal leaves 0 in every field but its number and the automaton at fault.
use Rattle.std.specs.Prelude.{ℕ, Result, cond}
use Rattle.file_fields.specs.declared.Refusal.{Refusal}
use Rattle.file_writing.specs.Answers.{told as told_written}
use Rattle.compare_promise.specs.declared.Comparison.{Comparison as ComparisonAnswer}
use Rattle.compare_promise.specs.Comparing.{told as told_comparison}
use Rattle.count_promise.specs.declared.WordCount.{WordCount as WordCountAnswer}
use Rattle.count_promise.specs.WordCounts.{told as told_word_count}
use Rattle.ranges_promise.specs.declared.Fillings.{Fillings}
use Rattle.ranges_promise.specs.RangeAnswers.{told as told_ranged}
use Rattle.registered_automata.specs.declared.results.Comparison.{Comparison}
use Rattle.registered_automata.specs.declared.results.Ranged.{Ranged}
use Rattle.registered_automata.specs.declared.results.WordCount.{WordCount}
use Rattle.registered_automata.specs.declared.results.Written.{Written}

-- of a call that writes a file
abbrev pub written_fields : Result ℕ Refusal → Written
written_fields r = let t = told_written r in record { length = t.size; number = t.number; automaton = t.at_fault }

-- of comparing; a taker of 0 stands for the same words
abbrev pub comparison_fields : ComparisonAnswer → Comparison
comparison_fields r = let t = told_comparison r in record { pairs = t.pairs; length = t.size; number = t.number; automaton = t.at_fault; taker = t.taker }

-- of counting
abbrev pub word_count_fields : Result WordCountAnswer Refusal → WordCount
word_count_fields r = let t = told_word_count r in record { accepted = t.accepted; rejected = t.rejected; number = t.number; automaton = t.at_fault }

-- of a word with ranges; 1 stands for always, 2 for sometimes, 3 for never
abbrev pub ranged_fields : Result Fillings Refusal → Ranged
ranged_fields r =
    let t = told_ranged r in
    record {
      number = t.number;
      automaton = t.at_fault;
      answer = cond t.always 1 (cond t.sometimes 2 (cond t.never 3 0));
    }
