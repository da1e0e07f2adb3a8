-- FewLive: no more configurations are live than there are, so that an answer fits into one word.
use mathlib.Core.Path.{◌≡◌}
use mathlib.Core.Bool.{Bool, ◌||◌, cond, false, true}
use mathlib.Core.List.{List, [], ◌∷◌}
use mathlib.Core.Option.{Option, none, some}
use Prim.Native.Nat.{◌^◌, ◌<◌, ◌≤◌, suc, zero, ℕ}
use native.Mathlib.Omega.{arith}
use lib.Dec.{eqb}
use lib.ListN.{length}
use Rattle.automata.specs.Automaton.{Automaton}
use Rattle.automata.specs.Live.{PlainArc, by_letter, count, epsilon_closure, hit, in?, live, live_from, once, rounds, step, table}
use Rattle.automata.specs.Unfolding.{accepted_bytes, configurations, live_count, live_set, plain_arcs, spelled_or}
use Rattle.automata.specs.Words.{spelling}
use Rattle.automata.proofs.Laws.{length-table}
use Rattle.std.specs.Prelude.{Ok}
use Rattle.table.specs.Membership.{judged}
use Rattle.table.specs.declared.Membership.TheVariants.{Accepted, Rejected}
use Rattle.table_words.specs.Words.{packed}

-- a set has at most as many members as there are numbers
count-few : (S : List Bool) → count S ≤ length S
unfolding count
count-few [] = omega arith
count-few (true ∷ S) = omega (arith, count-few S)
count-few (false ∷ S) = omega (arith, count-few S)

module _ (k : ℕ) (arcs : List PlainArc) where
  rounds-long : (n : ℕ) (S : List Bool) → length S ≡ k → length (rounds k arcs n S) ≡ k
  unfolding rounds once
  rounds-long zero S h = h
  rounds-long (suc n) S h = length-table k (λ j. in? (rounds k arcs n S) j || hit arcs none (rounds k arcs n S) j)

  from-long : (S : List Bool) (w : List ℕ) → length S ≡ k → length (live_from k arcs S w) ≡ k
  unfolding live_from by_letter epsilon_closure step
  from-long S [] h = h
  from-long S (a ∷ w) h = from-long (by_letter k arcs S a) w (rounds-long k (table k (hit arcs (some a) S)) (length-table k (hit arcs (some a) S)))

  live-long : (w : List ℕ) → length (live k arcs w) ≡ k
  unfolding live epsilon_closure
  live-long w = from-long (epsilon_closure k arcs (table k (eqb 0))) w (rounds-long k (table k (eqb 0)) (length-table k (eqb 0)))

module _ (x : Automaton) (L : ℕ) (few : length (configurations x L) ≤ L) (s : List ℕ) where
  pub live-few : live_count x L s ≤ L
  unfolding live_count live_set
  live-few = go (spelling x.alphabet s)
    where
      go : (o : Option (List ℕ)) → spelled_or 0 (λ w. count (live_set x L w)) o ≤ L
      go none = omega arith
      go (some w) = omega (arith, count-few (live_set x L w), live-long (length (configurations x L)) (plain_arcs x L) w)

pub packed-fits : (x : Automaton) → length (configurations x 256) ≤ 256 → (s : List ℕ) → packed (Ok (judged 256 x s)) < 2 ^ 64
unfolding judged
packed-fits x few s = go (accepted_bytes x 256 s)
  where
    go : (t : Bool) → packed (Ok (cond t (Accepted (live_count x 256 s)) (Rejected (live_count x 256 s)))) < 2 ^ 64
    go true = omega (arith, live-few x 256 few s)
    go false = omega (arith, live-few x 256 few s)
