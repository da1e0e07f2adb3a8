-- Results: the struct of each answer: the fields are what the answer tells, as the promises have it. A number of 0 says that nothing was
-- refused; a refusal leaves 0 in every field but its number, the automaton at fault and, of reading, the place.
use Rattle.std.specs.Prelude.{Result, cond}
use Rattle.file_fields.specs.declared.Counts.{Counts}
use Rattle.file_fields.specs.declared.Fault.{Fault}
use Rattle.file_fields.specs.declared.Refusal.{Refusal}
use Rattle.format.specs.Reading.{told as told_reading}
use Rattle.table.specs.declared.Membership.{Membership as MembershipAnswer}
use Rattle.table.specs.Membership.{told as told_membership}
use Rattle.table_words.specs.declared.Judged.{Judged}
use Rattle.table_words.specs.Words.{told as told_judged}
use Rattle.scanner.specs.declared.results.Membership.{Membership}
use Rattle.scanner.specs.declared.results.Reading.{Reading}
use Rattle.scanner.specs.declared.results.WordsJudged.{WordsJudged}

-- of reading
abbrev pub reading_fields : Result Counts Fault → Reading
reading_fields r =
    let t = told_reading r in
    record {
      letters = t.counts.letters;
      states = t.counts.states;
      registers = t.counts.registers;
      symbols = t.counts.symbols;
      arcs = t.counts.arcs;
      place = t.place;
      number = t.number;
      automaton = t.at_fault;
    }

-- of membership; 1 stands for accepted
abbrev pub membership_fields : Result MembershipAnswer Refusal → Membership
membership_fields r = let t = told_membership r in record { live = t.live; number = t.number; automaton = t.at_fault; accepted = cond t.accepted 1 0 }

-- of judging many words
abbrev pub judged_fields : Result Judged Refusal → WordsJudged
judged_fields r = let t = told_judged r in record { count = t.count; bytes = t.bytes; number = t.number; automaton = t.at_fault }
