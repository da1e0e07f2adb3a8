-- UnfoldedBytes: the bytes of the unfolded automaton, part by part in the order in which they are written, and how many they are.
use mathlib.Core.Path.{◌∙◌, ◌≡◌, ap, refl}
use mathlib.Core.List.{List, [], ◌++◌, ◌∷◌, map}
use Prim.Native.Nat.{◌*◌, ◌+◌, ℕ}
use native.Mathlib.Omega.{arith}
use lib.ListN.{length}
use Rattle.automata.specs.Automaton.{Automaton, letters}
use Rattle.automata.specs.Live.{PlainArc}
use Rattle.automata.specs.Unfolding.{as_arc, configurations, final_set, plain_arcs, unfolded}
use Rattle.format.specs.Encoding.{arc_bytes, arcs_bytes, bytes_of, flag_byte, header_bytes}
use Rattle.file_fields.specs.declared.Counts.{Counts}
use Rattle.file_laws.proofs.Laws.{bytes-length}
use Rattle.file_writing.proofs.Laws.{bytes-from}
use Rattle.unfold.proofs.UnfoldedFits.{plain_counts, unfolded-sizes}

-- each plain arc takes six
pub plain-length : (l : List PlainArc) → length (arcs_bytes (map as_arc l)) ≡ 6 * length l
unfolding arcs_bytes arc_bytes
plain-length [] = refl
plain-length (a ∷ l) = omega (arith, plain-length l)

module _ (x : Automaton) (L : ℕ) where
  abbrev counts : Counts
  counts = plain_counts (letters x) (length (configurations x L)) (length (plain_arcs x L))

  pub unfolded-parts : bytes_of (unfolded x L) ≡ (header_bytes counts ++ x.alphabet) ++ (map flag_byte (final_set x (configurations x L)) ++ arcs_bytes (map as_arc (plain_arcs x L)))
  unfolding unfolded
  unfolded-parts =
      let rest = map flag_byte (final_set x (configurations x L)) ++ arcs_bytes (map as_arc (plain_arcs x L)) in
      bytes-from (unfolded x L) ∙ ap (λ (c : Counts). (header_bytes c ++ x.alphabet) ++ rest) (unfolded-sizes x L)

  pub unfolded-length : length (bytes_of (unfolded x L)) ≡ 12 + letters x + length (configurations x L) + 6 * length (plain_arcs x L)
  unfolding unfolded
  unfolded-length =
      let e = unfolded-sizes x L in
      omega (arith, bytes-length (unfolded x L), ap (λ (c : Counts). c.letters) e, ap (λ (c : Counts). c.states) e, plain-length (plain_arcs x L))
