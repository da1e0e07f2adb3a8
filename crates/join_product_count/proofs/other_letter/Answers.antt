-- `join_product_count::other_letter` meets its contract.
use mathlib.Core.Path.{◌∙◌, ◌≡◌, ap}
use Prim.Native.Nat.{◌+◌}
use lib.ListN.{get_or, length}
use Rattle.std.specs.Option.{unwrap_or}
use Rattle.automata.specs.Words.{place}
use Rattle.file_letters.proofs.Laws.{place_found, place_within}
use Rattle.join_product_count.proofs.OtherLetters.{Matches-alike, Matches-other}
use Rattle.join_product_count.proofs.other_letter.Goals as goal

pub returns-then-others-eq0 : goal.returns-then-others-eq0
returns-then-others-eq0 c = λ a b second v h.
    Matches-alike b c.args.first.now c.args.others.now c.args.letter c.if-others-eq0.true c.requires.0

pub returns : goal.returns
returns c = let byte = get_or c.args.first.now (12 + c.args.letter) 0 in
    let e : c.unwrap_or.result ≡ place c.args.others.now byte = c.unwrap_or.ensures ∙ ap (λ o. unwrap_or o (length c.args.others.now)) c.place_of.ensures ∙ place_found c.args.others.now byte in
    λ a b second v h. Matches-other v c.if-others-eq0.false c.args.letter h e (rw e (place_within byte c.args.others.now))
