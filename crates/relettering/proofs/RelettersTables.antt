-- RelettersTables: with other letters an automaton has the same configurations, in the same order, and the same plain arcs but for their
-- letters; so 21 and 22 are decided alike.
use mathlib.Core.Path.{◌≡◌, ◌∙◌, ap, ap₂, refl, sym}
use mathlib.Core.List.{List, [], ◌∷◌, ◌++◌, map}
use mathlib.Core.Option
use mathlib.Core.Option.{Option, bind, none, some}
use mathlib.Core.Bool.{Bool, false, true}
use Prim.Native.Nat.{ℕ, suc}
use lib.Dec.{eqb}
use lib.ListN.{length, length-map}
use Rattle.automata.specs.Automaton.{Arc, Automaton, Configuration, start}
use Rattle.automata.specs.Exploration.{known, number}
use Rattle.automata.specs.Lists.{collect, only, prepend}
use Rattle.automata.specs.Live.{PlainArc}
use Rattle.automata.specs.Performing.{Move, along, perform, successors}
use Rattle.automata.specs.Unfolding.{configurations, final_set, plain_all, plain_arcs, plain_from, same_configuration, targets_of}
use Rattle.automata.proofs.Laws.{map-append, map-map}
use Rattle.relettering.specs.Relettering.{letter_by, relettered_arc, with_letters}

-- a plain arc with the new number of its letter
abbrev pub relettered_plain : (new : List ℕ) → PlainArc → PlainArc
relettered_plain new a = record { source = a.source; letter = Option.map (letter_by new) a.letter; target = a.target }

module _ (x : Automaton) (new all : List ℕ) where
  abbrev y : Automaton
  y = with_letters new all x

  abbrev ρ : ℕ → ℕ
  ρ = letter_by new

  abbrev relettered_move : Move → Move
  relettered_move m = record { letter = Option.map ρ m.letter; to = m.to }

  abbrev move_to : Option ℕ → ℕ → List ℕ → Move
  move_to α t v = record { letter = α; to = record { state = t; contents = v } }

  -- ---- one step
  along-same : (c : Configuration) (a : Arc) → along c (relettered_arc new a) ≡ Option.map relettered_move (along c a)
  unfolding along bind
  along-same c a = go (eqb a.source c.state)
    where
      done : (o : Option (List ℕ)) → Option.map (λ (v : List ℕ). move_to (Option.map ρ a.letter) a.target v) o ≡ Option.map relettered_move (Option.map (move_to a.letter a.target) o)
      done none = refl
      done (some v) = refl

      go : (b : Bool) → bind (only b c.contents) (λ u. Option.map (move_to (Option.map ρ a.letter) a.target) (perform a.ops u))
          ≡ Option.map relettered_move (bind (only b c.contents) (λ u. Option.map (move_to a.letter a.target) (perform a.ops u)))
      go true = done (perform a.ops c.contents)
      go false = refl

  collect-same : (c : Configuration) (l : List Arc) → collect (along c) (map (relettered_arc new) l) ≡ map relettered_move (collect (along c) l)
  unfolding collect
  collect-same c [] = refl
  collect-same c (a ∷ l) = ap₂ (λ (o : Option Move) (r : List Move). prepend o r) (along-same c a) (collect-same c l) ∙ go (along c a)
    where
      go : (o : Option Move) → prepend (Option.map relettered_move o) (map relettered_move (collect (along c) l)) ≡ map relettered_move (prepend o (collect (along c) l))
      go none = refl
      go (some m) = refl

  successors-same : (c : Configuration) → successors y c ≡ map relettered_move (successors x c)
  unfolding successors with_letters
  successors-same c = collect-same c x.arcs

  targets-same : (c : Configuration) → targets_of y c ≡ targets_of x c
  unfolding targets_of
  targets-same c = ap (map (λ (m : Move). m.to)) (successors-same c) ∙ map-map (λ (m : Move). m.to) relettered_move (successors x c)

  -- ---- the configurations
  pub configurations-same : (n : ℕ) → configurations y n ≡ configurations x n
  unfolding configurations with_letters
  configurations-same n = ap (λ (f : Configuration → List Configuration). known same_configuration f (start x ∷ []) n) (λ i c. targets-same c i)

  -- ---- the plain arcs
  from-same : (cs : List Configuration) (i : ℕ) (ms : List Move) → plain_from cs i (map relettered_move ms) ≡ map (relettered_plain new) (plain_from cs i ms)
  unfolding plain_from
  from-same cs i [] = refl
  from-same cs i (m ∷ ms) = ap (λ (l : List PlainArc). record { source = i; letter = Option.map ρ m.letter; target = number same_configuration m.to cs } ∷ l) (from-same cs i ms)

  all_same : (cs : List Configuration) (i : ℕ) (ds : List Configuration) → plain_all y cs i ds ≡ map (relettered_plain new) (plain_all x cs i ds)
  unfolding plain_all
  all_same cs i [] = refl
  all_same cs i (c ∷ ds) =
      ap₂ (λ (l r : List PlainArc). l ++ r) (ap (plain_from cs i) (successors-same c) ∙ from-same cs i (successors x c)) (all_same cs (suc i) ds)
      ∙ sym (map-append (relettered_plain new) (plain_from cs i (successors x c)) (plain_all x cs (suc i) ds))

  pub plain-same : (n : ℕ) → plain_arcs y n ≡ map (relettered_plain new) (plain_arcs x n)
  unfolding plain_arcs
  plain-same n = ap (λ (cs : List Configuration). plain_all y cs 0 cs) (configurations-same n) ∙ all_same (configurations x n) 0 (configurations x n)

  pub plain-many : (n : ℕ) → length (plain_arcs y n) ≡ length (plain_arcs x n)
  plain-many n = ap length (plain-same n) ∙ length-map (plain_arcs x n) (relettered_plain new)

  -- ---- the final ones
  pub finals-same : (n : ℕ) → final_set y (configurations y n) ≡ final_set x (configurations x n)
  unfolding final_set with_letters
  finals-same n = ap (final_set x) (configurations-same n)
