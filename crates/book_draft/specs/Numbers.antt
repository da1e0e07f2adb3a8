-- Numbers: the number of each fault of a text, as docs/TEXT.md has them.
use Rattle.std.specs.Prelude.{ℕ}
use Rattle.book_draft.specs.declared.faults.TextReason.{TextReason}
use Rattle.book_draft.specs.declared.faults.TextReason.TheVariants.{FirstWord, Registers, RegistersTwice, BehindRegisters, TooManySymbols, SymbolTwice, Letter, TooManyLetters, LetterTwice, LetterBehindAnArc, TooManyStates, StateTwice, NoState, NoLetter, WordMissing, TooManyArcs, TooManyOperations, Operation, NoRegister, RegisterZeroWritten, RegisterZeroSymbol, NoSymbol, NoStates, OutputTooShort, NoValidFile}

-- the number by which a fault is told
abbrev pub number_of : TextReason → ℕ
number_of FirstWord = 1
number_of Registers = 2
number_of RegistersTwice = 3
number_of BehindRegisters = 22
number_of TooManySymbols = 4
number_of SymbolTwice = 5
number_of Letter = 6
number_of TooManyLetters = 7
number_of LetterTwice = 8
number_of LetterBehindAnArc = 9
number_of TooManyStates = 10
number_of StateTwice = 11
number_of NoState = 12
number_of NoLetter = 13
number_of WordMissing = 14
number_of TooManyArcs = 15
number_of TooManyOperations = 16
number_of Operation = 17
number_of NoRegister = 18
number_of RegisterZeroWritten = 19
number_of RegisterZeroSymbol = 20
number_of NoSymbol = 21
number_of NoStates = 23
number_of OutputTooShort = 24
number_of NoValidFile = 25
