-- `word_fields::fill` meets its contract: a field of a word of ones alone is 65535.
use Rattle.std.proofs.Common.{rules, ◌≡◌, ℕ, ◌+◌, ◌-◌, ◌/◌, ◌<◌, get_or, List}
use Rattle.std.proofs.lemmas.List.{places, get_or-replicate}
use mathlib.Core.Path.{◌∙◌, ap}
use native.Mathlib.Omega.{arith}
use borrow.Rule.Slice.PartMut.{put_mid}
use Rattle.word_fields.proofs.FieldLaws.{all_ones, field-ones}
use Rattle.word_fields.proofs.fill.Goals as goal

pub returns-clause-set : goal.returns-clause-set
returns-clause-set c k h =
    let a : k / 4 < c.args.n = omega arith in
    let e : get_or (put_mid c.args.base (c.args.base + c.args.n - c.args.base) c.args.w.now c.fill.new.self) (c.args.base + k / 4) 0 ≡ get_or c.fill.new.self (k / 4) 0 = search (rules, places) in
    let f : get_or c.fill.new.self (k / 4) 0 ≡ all_ones = ap (λ (xs : List ℕ). get_or xs (k / 4) 0) (c.fill.ensures.after (λ y e. e)) ∙ get_or-replicate _ (k / 4) all_ones 0 (omega arith) in
    field-ones _ c.args.base k (e ∙ f)
