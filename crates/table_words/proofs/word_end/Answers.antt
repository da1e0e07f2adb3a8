-- `table_words::word_end` meets its contract: the first separator is found where the definition has it (WordLaws).
use mathlib.Core.Path.{◌∙◌, ◌≡◌, sym}
use Prim.Native.Nat.{◌-◌}
use native.Mathlib.Omega.{arith}
use Rattle.std.proofs.Common.{rules, tests}
use Rattle.std.proofs.lemmas.Iterator.{YieldsList-from_slice}
use Rattle.std.proofs.lemmas.Iterator.Search.{position_from_yields_List}
use Rattle.std.specs.List.{position}
use lib.Dec.{eqb}
use lib.ListN.{drop, length, length-drop, take}
use lib.Seq.{take_all}
use Rattle.table_words.proofs.WordLaws.{at_separator, no_separator}
use Rattle.table_words.proofs.word_end.Goals as goal
use Rattle.table_words.proofs.word_end.Goals.{After-position}

found : (p : goal.After-position) → p.position.result ≡ position (λ b. eqb b p.args.separator) (drop p.args.from p.args.bytes.now)
found p =
    let whole : take (length p.args.bytes.now - p.args.from) (drop p.args.from p.args.bytes.now) ≡ drop p.args.from p.args.bytes.now = take_all _ _ (omega (arith, length-drop p.args.from p.args.bytes.now)) in
    position_from_yields_List (λ b. eqb b p.args.separator) _ _ p.position.result p.position.ensures.ran (YieldsList-from_slice _ (p.iter.ensures.rest ∙ whole)) (λ x b q k. search (rules, tests))

pub returns-in-Some : goal.returns-in-Some
returns-in-Some c = omega (arith, at_separator c.args.separator (drop c.args.from c.args.bytes.now) c.in-Some.length (sym (found (goal.at.returns-in-Some c).After-position) ∙ c.in-Some.is))

pub returns-in-None : goal.returns-in-None
returns-in-None c = omega (arith, c.requires, length-drop c.args.from c.args.bytes.now, no_separator c.args.separator (drop c.args.from c.args.bytes.now) (sym (found (goal.at.returns-in-None c).After-position) ∙ c.in-None.is))
