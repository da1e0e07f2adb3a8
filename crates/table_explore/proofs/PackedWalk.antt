-- PackedWalk: the walk over packed configurations finds the configurations and the plain arcs of the automaton.
use mathlib.Core.Path.{◌∙◌, ◌≡◌, ap, ap₂, refl, sym}
use Prim.Native.Nat.{◌-◌, ◌≤◌, suc, zero, ℕ}
use lib.Dec.{eqb}
use lib.ListN.{length, length-replicate, replicate, take}
use lib.Seq.{take_all}
use mathlib.Core.List.{List, [], ◌++◌, ◌∷◌, map}
use native.Mathlib.Omega.{arith}
use Rattle.automata.specs.Automaton.{Automaton, Configuration, start}
use Rattle.automata.specs.Exploration.{known}
use Rattle.automata.specs.Lists.{Each}
use Rattle.automata.specs.Live.{PlainArc}
use Rattle.automata.specs.Performing.{Move, successors}
use Rattle.automata.specs.Unfolding.{configurations, plain_all, plain_arcs, plain_from, same_configuration, targets_of}
use Rattle.table_operations.specs.Packed.{hops, pack, pack_contents, tos}
use Rattle.table_configurations.specs.Known.{known_packed, next_packed, plains_up_to}
use Rattle.format.specs.Decoding.{arcs_of}
use Rattle.format.specs.Placed.{OkArcs}
use Rattle.automata.proofs.Laws.{known_map, number-map}
use Rattle.table_operations.proofs.Laws.{Good, Packs, Small, hops-packed, pack_hop, same-packed}
use Rattle.table_configurations.proofs.Laws.{all_numbered, arcs_numbered, upto-final}

zeros : (n : ℕ) → (pack_contents (replicate n 0) ≡ 0) × Small (replicate n 0)
unfolding pack_contents
zeros zero = (refl, tt)
zeros (suc n) = let z = zeros n in (rw z.0, (omega arith, z.1))

to-packed : (n : ℕ) (ms : List Move) → Each (λ m. Good n m.to) ms
    → (map pack (map (λ m. m.to) ms) ≡ tos (map pack_hop ms)) × Each (Good n) (map (λ m. m.to) ms)
to-packed n [] g = (refl, tt)
to-packed n (m ∷ ms) g = let t = to-packed n ms g.1 in (ap (λ (l : List ℕ). pack m.to ∷ l) t.0, (g.0, t.1))

map-take : (s : ℕ) (l : List Configuration) → map pack (take s l) ≡ take s (map pack l)
map-take zero l = refl
map-take (suc s) [] = refl
map-take (suc s) (c ∷ l) = ap (λ (t : List ℕ). pack c ∷ t) (map-take s l)

each_take : (P : Configuration → Type 0) (s : ℕ) (l : List Configuration) → Each P l → Each P (take s l)
each_take P zero l h = tt
each_take P (suc s) [] h = tt
each_take P (suc s) (c ∷ l) h = (h.0, each_take P s l h.1)

module _ (b : Automaton) (n m : ℕ) (l : List ℕ) (few : n ≤ 8) (regs : b.registers ≡ n) (arcs : b.arcs ≡ arcs_of m l) (ok : OkArcs n m l) where
  steps : (c : Configuration) → Good n c → Packs n (hops m l (pack c)) (successors b c)
  unfolding successors
  steps c g = rw arcs (hops-packed n few c g m l ok)

  onward : (c : Configuration) → Good n c → (map pack (targets_of b c) ≡ next_packed m l (pack c)) × Each (Good n) (targets_of b c)
  unfolding targets_of next_packed
  onward c g =
      let s = steps c g in
      let t = to-packed n (successors b c) s.1 in
      (t.0 ∙ ap tos (sym s.0), t.1)

  pub configurations-packed : (L : ℕ) → (map pack (configurations b L) ≡ known_packed m l L) × Each (Good n) (configurations b L)
  unfolding configurations known_packed
  configurations-packed L =
      let z = zeros b.registers in
      let s : Good n (start b) = (length-replicate b.registers 0 ∙ regs, z.1) in
      let k = known_map pack same_configuration eqb (Good n) (same-packed n few) (targets_of b) (next_packed m l) onward (start b ∷ []) (s, tt) L in
      (k.0 ∙ ap (λ (x : ℕ). known eqb (next_packed m l) (x ∷ []) L) (omega (arith, z.0)), k.1)

  module _ (all : List Configuration) (good : Each (Good n) all) where
    from-packed : (i : ℕ) (ms : List Move) → Each (λ m. Good n m.to) ms → plain_from all i ms ≡ arcs_numbered i (map pack all) (map pack_hop ms)
    unfolding plain_from
    from-packed i [] g = refl
    from-packed i (x ∷ ms) g =
        rw (number-map pack same_configuration eqb (Good n) (same-packed n few) x.to all g.0 good, from-packed i ms g.1)

    all-packed : (i : ℕ) (cs : List Configuration) → Each (Good n) cs → plain_all b all i cs ≡ all_numbered m l (map pack all) i (map pack cs)
    unfolding plain_all all_numbered
    all-packed i [] g = refl
    all-packed i (c ∷ cs) g =
        let s = steps c g.0 in
        ap₂ (λ (x y : List PlainArc). x ++ y) (from-packed i (successors b c) s.1 ∙ ap (arcs_numbered i (map pack all)) (sym s.0)) (all-packed (suc i) cs g.1)

  -- the plain arcs of the first s configurations
  pub plain_all-packed : (L s : ℕ) → s ≤ L → plain_all b (configurations b L) 0 (take s (configurations b L)) ≡ plains_up_to m l s
  plain_all-packed L s h =
      let k = configurations-packed L in
      all-packed (configurations b L) k.1 0 (take s (configurations b L)) (each_take (Good n) s (configurations b L) k.1)
      ∙ rw (map-take s (configurations b L), k.0) (sym (upto-final m l L s (L - s) (omega arith)))

  pub plain_arcs-packed : (L : ℕ) → length (configurations b L) ≤ L → plain_arcs b L ≡ plains_up_to m l L
  unfolding plain_arcs
  plain_arcs-packed L h = rw (take_all L (configurations b L) h) at (plain_all-packed L L (omega arith))
