-- `table_words::judge_words` meets its contract: before each word the automaton is ready, and what all words give is what stands in the answers,
-- followed by what the rest gives (SoFar).
use mathlib.Core.Path.{◌≡◌}
use lib.ListN.{length}
use Rattle.format.specs.Decoding.{automaton_of}
use Rattle.table.specs.Judging.{Judging}
use Rattle.table_words.proofs.SoFar.{SoFar}
use Rattle.table_words.proofs.judge_words.Given as goal

abbrev pub invariant-loop-n : goal.invariant-loop-n
invariant-loop-n l = record {
  ready : Judging l.file l.c l.w l.block;
  long : length l.w ≡ length l.initial.w;
  so_far : SoFar (automaton_of l.file) l.bytes l.separator l.initial.answers l.n l.from l.answers;
}
