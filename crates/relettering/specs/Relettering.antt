-- Relettering: two letter lists joined, and an automaton over a longer list, each arc with the number that its letter has there (document
-- 02, change 6). A letter of the list that the automaton lacks is on none of its arcs, so nothing is live behind it.
use Rattle.std.specs.Prelude.{cond, List, [], ◌∷◌, map, ℕ, ltb, get_or}
use Rattle.std.proofs.Math.Option
use Rattle.automata.specs.Automaton.{Arc, Automaton}
use Rattle.automata.specs.Joins.{arc_from}
use Rattle.automata.specs.Letters.{same_key}
use Rattle.automata.specs.Lists.{any}
use Rattle.automata.specs.Words.{places}

-- ---- the joined list
-- a byte in its place in an ascending list: the lower of it and the first comes first, the higher in its place among the rest
unfoldable pub inserted : ℕ → List ℕ → List ℕ
inserted x [] = x ∷ []
inserted x (y ∷ l) = cond (ltb x y) (x ∷ inserted y l) (y ∷ inserted x l)

-- the first list's bytes and those of the second that match none of them, ascending
unfoldable pub joined_letters : (first second : List ℕ) → List ℕ
unfolding inserted any
joined_letters first [] = first
joined_letters first (y ∷ second) = let l = joined_letters first second in cond (any (same_key y) first) l (inserted y l)

-- ---- an automaton over another list
-- the number of letter l by a list of new numbers; a number beyond that list is left alone
abbrev pub letter_by : (new : List ℕ) → ℕ → ℕ
letter_by new l = get_or new l l

-- an arc with the new number of its letter
abbrev pub relettered_arc : (new : List ℕ) → Arc → Arc
relettered_arc new a = arc_from a.source (Option.map (letter_by new) a.letter) a.target a.ops

-- the automaton with these letters, its arcs by the new numbers
unfoldable pub with_letters : (new all : List ℕ) → Automaton → Automaton
with_letters new all x = record { alphabet = all; registers = x.registers; symbols = x.symbols; finals = x.finals; arcs = map (relettered_arc new) x.arcs }

-- the automaton over the letters of a list that has its own: the new number of a letter is its place there
abbrev pub relettered : (all : List ℕ) → Automaton → Automaton
relettered all x = with_letters (places all x.alphabet) all x

-- ---- two automata
-- the letters of both
abbrev pub letters_of_both : Automaton → Automaton → List ℕ
letters_of_both x y = joined_letters x.alphabet y.alphabet

-- what is made of two automata, of the two over the letters of both
abbrev pub over_both : {A : Type 0} → (Automaton → Automaton → A) → Automaton → Automaton → A
over_both made x y = made (relettered (letters_of_both x y) x) (relettered (letters_of_both x y) y)
