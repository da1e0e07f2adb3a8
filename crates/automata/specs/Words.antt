-- Words: a word is handed in as bytes, each standing for the letter with its key (document 01, 'Runs and slips'; document 02, change 4).
-- A byte that is no letter stands for nothing, so a word that has one is accepted by no run.
use Rattle.std.specs.Prelude.{◌≡◌, ℕ, Bool, length, eqb, ltb}
use mathlib.Core.List.{List, [], ◌∷◌, Memᴰ, map}
use Rattle.std.proofs.Math.Option
use Rattle.std.proofs.Math.Option.{Option, some, bind}
use Rattle.std.proofs.Math.ListN.{get_elem?}
use Rattle.automata.specs.Lists.{Each, only, same_by}
use Rattle.automata.specs.Letters.{key, keys}
use Rattle.automata.specs.Exploration.{number}
use Rattle.automata.specs.Automaton.{Automaton, Configuration, start, Produces, Run, Accepts}

-- two automata list the same letters, place by place; and the test of it
abbrev pub SameLetters : Automaton → Automaton → Type 0
SameLetters x y = keys x.alphabet ≡ keys y.alphabet

abbrev pub same_letters : Automaton → Automaton → Bool
same_letters x y = same_by eqb (keys x.alphabet) (keys y.alphabet)

-- the bytes stand for the letters with these numbers
abbrev pub Spells : List ℕ → List ℕ → List ℕ → Type 0
Spells alphabet [] [] = Unit {0}
Spells alphabet [] (k ∷ w) = ⊥
Spells alphabet (byte ∷ s) [] = ⊥
Spells alphabet (byte ∷ s) (k ∷ w) = (get_elem? (keys alphabet) k ≡ some (key byte)) × Spells alphabet s w

-- a word that is written in the bytes of the letter list itself
abbrev pub Listed : (alphabet word : List ℕ) → Type 0
Listed alphabet word = Each (λ byte. Memᴰ byte alphabet) word

-- ---- the numbers, computed
-- the place in the letter list of the letter that the byte stands for, which is its number; the number of letters where there is none
abbrev pub place : (alphabet : List ℕ) → ℕ → ℕ
place alphabet byte = number eqb (key byte) (keys alphabet)

-- the places of a word's letters
abbrev pub places : (alphabet word : List ℕ) → List ℕ
places alphabet word = map (place alphabet) word

-- the number of the letter that the byte stands for
unfoldable pub letter_with : List ℕ → ℕ → Option ℕ
unfolding number
letter_with alphabet byte = only (ltb (place alphabet byte) (length alphabet)) (place alphabet byte)

-- the numbers of the letters that the bytes stand for, or none where a byte is no letter
unfoldable pub spelling : List ℕ → List ℕ → Option (List ℕ)
unfolding letter_with bind
spelling alphabet [] = some []
spelling alphabet (byte ∷ s) = bind (letter_with alphabet byte) (λ k. Option.map (λ w. k ∷ w) (spelling alphabet s))

-- ---- languages
-- P holds of the word that the bytes stand for
pub record Spelled (alphabet : List ℕ) (P : List ℕ → Type 0) (s : List ℕ) : Type 0 where
  pub word : List ℕ
  pub spells : Spells alphabet s word
  pub holds : P word

-- the language of an automaton: the words, as bytes, that it accepts
abbrev pub Language : Automaton → List ℕ → Type 0
Language x = Spelled x.alphabet (Accepts x)

-- the live set of a word: the configurations that runs spelling it end in
abbrev pub LiveAfter : Automaton → List ℕ → Configuration → Type 0
LiveAfter x s c = Spelled x.alphabet (λ w. Run (Produces x) (start x) w c) s
