-- The letters of a valid file are at most 64, and no two of them are one letter.
use Rattle.std.proofs.Common.{◌∙◌, arith, subst, sym}
use Rattle.file_laws.proofs.Laws.{lent_alphabet, valid-fits, valid-letters}
use Rattle.run_ranges.specs.Letters.{FewApart}
use Rattle.run_ranges.proofs.judge_words.Goals as goal

pub flags_at-end-requires : goal.flags_at-end-requires
flags_at-end-requires c = (valid-letters c.args.file.now _ (sym c.read.ensures ∙ c.in-Ok.is)).0

pub slice_bounds-judge_all-end : goal.slice_bounds-judge_all-end
slice_bounds-judge_all-end c = omega (arith, (valid-letters c.args.file.now _ (sym c.read.ensures ∙ c.in-Ok.is)).1, c.flags_at-end.ensures)

pub judge_all-requires : goal.judge_all-requires
judge_all-requires c =
    let e = sym c.read.ensures ∙ c.in-Ok.is in
    let fits = valid-fits c.args.file.now _ e in
    (subst FewApart (sym (lent_alphabet c.args.file.now _ e c.flags_at-end.result c.flags_at-end.ensures)) (fits.ranges.letters, fits.well_formed.letters_apart), c.requires)
