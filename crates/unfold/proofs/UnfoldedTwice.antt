-- UnfoldedTwice: unfolding the unfolded automaton gives the same automaton: its configurations are the same numbers, and its arcs are met in
-- the same order.
use mathlib.Core.Path.{◌∙◌, ◌≡◌, ap, ap₂, refl, sym}
use mathlib.Core.Bool.{Bool, false}
use mathlib.Core.List.{List, Memᴰ, [], ◌++◌, ◌∷◌, map}
use mathlib.Core.Option
use mathlib.Core.Option.{some-injective, some}
use Prim.Native.Nat.{◌≤◌, suc, ℕ}
use native.Mathlib.Omega.{arith}
use lib.ListN.{get_or, get_elem?, length, length-map}
use Rattle.automata.specs.Automaton.{Automaton, Configuration, start}
use Rattle.automata.specs.Exploration.{known, number}
use Rattle.automata.specs.Lists.{Each}
use Rattle.automata.specs.Live.{PlainArc, in?}
use Rattle.automata.specs.Performing.{Move, successors}
use Rattle.automata.specs.Unfolding.{as_arc, configurations, final_set, plain_all, plain_arcs, plain_from, same_configuration, targets_of, unfolded}
use Rattle.automata.proofs.Laws.{at_map, at_mem, at_some, Bool-ext, distinct, first-configuration, get_elem?-lt, known_map, map-map, mem_at, mem_each, moves-to, number_at, number-map, one_number, same_configuration-iff, successors-iff}
use Rattle.unfold.proofs.PlainMoves.{numbered, plain-successors, plain_move, plainly}

map_each : {A B : Type 0} (f g : A → B) (l : List A) → Each (λ x. f x ≡ g x) l → map f l ≡ map g l
map_each f g [] h = refl
map_each {A} {B} f g (x ∷ l) h = ap₂ (λ (y : B) (r : List B). y ∷ r) h.0 (map_each f g l h.1)

module _ (x : Automaton) (L : ℕ) (few : length (configurations x L) ≤ L) where
  abbrev all : List Configuration
  all = configurations x L

  abbrev u : Automaton
  u = unfolded x L

  abbrev f : Configuration → Configuration
  f = numbered x all

  -- one of the configurations
  abbrev In : Configuration → Type 0
  In c = Memᴰ c all

  place : {c : Configuration} → In c → get_elem? all (number same_configuration c all) ≡ some c
  place m = number_at same_configuration same_configuration-iff m

  agree : (c d : Configuration) → In c → In d → same_configuration c d ≡ same_configuration (f c) (f d)
  agree c d m n = Bool-ext (same_configuration c d) (same_configuration (f c) (f d))
      (λ t. (same_configuration-iff (f c) (f d)).1 (ap f ((same_configuration-iff c d).0 t)))
      (λ t. let e : number same_configuration c all ≡ number same_configuration d all = ap (λ (b : Configuration). b.state) ((same_configuration-iff (f c) (f d)).0 t) in
      (same_configuration-iff c d).1 (some-injective c d (sym (place m) ∙ ap (get_elem? all) e ∙ place n)))

  -- what passes from a configuration leads to configurations
  targets-in : (c : Configuration) → In c → Each (λ (m : Move). In m.to) (successors x c)
  targets-in c m = mem_each (successors x c) (λ v k.
      let p = mem_at m in
      let q = moves-to x L few p.0 p.1 ((successors-iff x c v.letter v.to).0 k) in
      at_mem all q.0 q.1)

  passes : (c : Configuration) → In c → successors u (f c) ≡ map (plain_move x all) (successors x c)
  passes c m = plain-successors x L (number same_configuration c all) (place m)

  onward : (c : Configuration) → In c → (map f (targets_of x c) ≡ targets_of u (f c)) × Each In (targets_of x c)
  unfolding targets_of
  onward c m = (
    map-map f (λ (v : Move). v.to) (successors x c) ∙ sym (map-map (λ (v : Move). v.to) (plain_move x all) (successors x c)) ∙ ap (map (λ (v : Move). v.to)) (sym (passes c m)),
    each_to (successors x c) (targets-in c m),
  )
    where
      each_to : (ms : List Move) → Each (λ (v : Move). In v.to) ms → Each In (map (λ (v : Move). v.to) ms)
      each_to [] h = tt
      each_to (v ∷ ms) h = (h.0, each_to ms h.1)

  first-in : In (start x)
  first-in = at_mem all 0 (first-configuration x L few)

  starts-same : f (start x) ≡ start u
  unfolding unfolded
  starts-same = let e = one_number same_configuration same_configuration-iff all (number same_configuration (start x) all) 0 (distinct x L few) (place first-in) (first-configuration x L few) in ap plainly e

  -- the configurations, by their numbers
  same-configurations : (configurations u L ≡ map f all) × Each In all
  unfolding configurations
  same-configurations =
      let k = known_map f same_configuration same_configuration In agree (targets_of x) (targets_of u) onward (start x ∷ []) (first-in, tt) L in
      (sym (k.0 ∙ ap (λ (c : Configuration). known same_configuration (targets_of u) (c ∷ []) L) starts-same), k.1)

  -- the plain arcs
  from-same : (i : ℕ) (ms : List Move) → Each (λ (m : Move). In m.to) ms → plain_from (map f all) i (map (plain_move x all) ms) ≡ plain_from all i ms
  unfolding plain_from
  from-same i [] h = refl
  from-same i (m ∷ ms) h =
      let e = sym (number-map f same_configuration same_configuration In agree m.to all h.0 same-configurations.1) in
      ap₂ (λ (t : ℕ) (l : List PlainArc). record { source = i; letter = m.letter; target = t } ∷ l) e (from-same i ms h.1)

  all_same : (i : ℕ) (cs : List Configuration) → Each In cs → plain_all u (map f all) i (map f cs) ≡ plain_all x all i cs
  unfolding plain_all
  all_same i [] h = refl
  all_same i (c ∷ cs) h =
      ap₂ (λ (l r : List PlainArc). l ++ r) (ap (plain_from (map f all) i) (passes c h.0) ∙ from-same i (successors x c) (targets-in c h.0)) (all_same (suc i) cs h.1)

  pub same-plain : plain_arcs (unfolded x L) L ≡ plain_arcs x L
  unfolding plain_arcs
  same-plain = ap (λ (cs : List Configuration). plain_all u cs 0 cs) same-configurations.0 ∙ all_same 0 all same-configurations.1

  pub same-many : length (configurations (unfolded x L) L) ≡ length (configurations x L)
  same-many = ap length same-configurations.0 ∙ length-map all f

  -- the final ones
  final-here : (c : Configuration) → In c → in? (final_set x all) (number same_configuration c all) ≡ in? x.finals c.state
  unfolding final_set
  final-here c m =
      let g : Configuration → Bool = λ d. in? x.finals d.state in
      let n = number same_configuration c all in
      let h = get_elem?-lt all n (place m) in
      some-injective (get_or (map g all) n false) (g c) (sym (at_some (map g all) n false (omega (arith, length-map all g))) ∙ at_map g all n ∙ ap (Option.map g) (place m))

  same-finals : final_set u (configurations u L) ≡ final_set x all
  unfolding final_set unfolded
  same-finals =
      let g : Configuration → Bool = λ d. in? u.finals d.state in
      ap (map g) same-configurations.0 ∙ map-map g f all
      ∙ map_each (λ c. g (f c)) (λ c. in? x.finals c.state) all (mem_each all final-here)

  -- THE LAW. Unfolded once more, it is the same automaton
  pub unfolded-again : unfolded (unfolded x L) L ≡ unfolded x L
  unfolding unfolded
  unfolded-again = λ i. record { alphabet = x.alphabet; registers = 1; symbols = 1; finals = same-finals i; arcs = map as_arc (same-plain i) }
