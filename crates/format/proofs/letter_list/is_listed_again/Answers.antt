-- Whether a letter is listed again behind its place: of letters that ascend, just if its key is another byte and stands there.
use mathlib.Core.Path.{sym, ◌∙◌}
use Prim.Native.Nat.{◌+◌}
use native.Mathlib.Numerals.{add-one}
use Rattle.file_fields.proofs.Laws.{nothing-behind, small-behind, tail}
use Rattle.format.proofs.letter_list.is_listed_again.Goals as goal

pub returns-then-small-s : goal.returns-then-small-s
returns-then-small-s c = sym (nothing-behind c.args.s.now c.args.i c.requires.0 c.requires.1 (sym c.key_of-small.ensures ∙ c.if-small-s.true))

pub returns : goal.returns
returns c = c.is_among.ensures ∙ rw (c.key_of-small.ensures, tail c.args.s.now (c.args.i + 1), add-one) (sym (small-behind c.args.s.now c.args.i c.requires.0 c.requires.1))
