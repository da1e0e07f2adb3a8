-- `table_live::letter_of` meets its contract: the table of keys tells the letter (LetterTable).
use mathlib.Core.Path.{◌∙◌, ◌≡◌, ap}
use mathlib.Core.List.{List}
use Prim.Native.Nat.{ℕ}
use native.Mathlib.Omega.{arith}
use lib.ListN.{length}
use Rattle.automata.specs.Letters.{key}
use Rattle.word_layout.specs.Layout.{byte_letters}
use Rattle.word_fields.specs.Chains.{last}
use Rattle.word_fields.specs.Fields.{field}
use Rattle.table_live.specs.Steps.{LetterNumbers}
use Rattle.table_live.proofs.LetterTable.{key_at, told_none, told-some}
use Rattle.table_live.proofs.letter_of.Goals as goal
use Rattle.table_live.proofs.letter_of.Goals.{After-get16}

-- what is read
told : (c : goal.After-get16) (alphabet : List ℕ) → LetterNumbers alphabet c.args.w.now → c.get16.result ≡ last (key_at alphabet) (key c.args.byte) (length alphabet)
told c alphabet numbers = c.get16.ensures.0 ∙ ap (field c.args.w.now byte_letters) (c.from.ensures ∙ c.key_of.ensures) ∙ numbers (key c.args.byte) (omega (arith, c.key_of.ensures))

pub returns : goal.returns
returns c = record { letter = λ alphabet numbers apart few. told-some alphabet apart few c.args.byte (told c alphabet numbers); none = λ alphabet numbers apart few. told_none alphabet apart few c.args.byte (told c alphabet numbers) }
