-- `word_sets::inside` meets its contract: all of a is in b just if the union adds nothing to b.
use Rattle.std.proofs.Common.{rules, ◌≡◌, ◌↔◌, T}
use Rattle.word_sets.proofs.SetLaws.{four}
use Rattle.word_sets.proofs.Views.{inside-set}
use Rattle.word_sets.proofs.inside.Goals as goal

pub returns : goal.returns
returns c =
    let same : T c.eq.result ↔ (c.union.result ≡ c.args.b) = search rules in
    inside-set c.args.a c.eq.result (four _ _ c.union.type_inv) (four _ _ c.well_formed.1.0) c.union.ensures same
