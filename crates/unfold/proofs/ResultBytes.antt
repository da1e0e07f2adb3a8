-- ResultBytes: the bytes of the unfolded automaton, by what is known of an open file.
use mathlib.Core.Path.{◌∙◌, ◌≡◌, ap, ap₂, sym}
use mathlib.Core.List.{List, ◌++◌, map}
use Prim.Native.Nat.{◌*◌, ◌+◌, ◌≤◌, ℕ}
use native.Mathlib.Omega.{arith}
use lib.ListN.{length, length-map}
use Rattle.automata.specs.Automaton.{Automaton, letters}
use Rattle.automata.specs.Unfolding.{as_arc, configurations, final_set, plain_arcs, unfolded}
use Rattle.file_fields.specs.declared.Counts.{Counts}
use Rattle.format.specs.Decoding.{automaton_of}
use Rattle.format.specs.Encoding.{arcs_bytes, bytes_of, flag_byte, header_bytes}
use Rattle.file_laws.proofs.Laws.{valid-sizes, valid-well_formed}
use Rattle.word_layout.specs.declared.Block.{Block}
use Rattle.word_sets.specs.Sets.{view}
use Rattle.word_sets.proofs.Laws.{length-view}
use Rattle.table.specs.Face.{plains_of_many}
use Rattle.table.specs.Opening.{Holds}
use Rattle.table.proofs.Laws.{holds-count, holds-few, holds_plain, holds-plains, holds-valid, some-configuration}
use Rattle.unfold.proofs.UnfoldedFits.{plain_counts}
use Rattle.unfold.proofs.UnfoldedBytes.{plain-length, unfolded-length, unfolded-parts}

module _ {file : List ℕ} {c : Counts} {w : List ℕ} {block : Block} (h : Holds file c w block) where
  abbrev x : Automaton
  x = automaton_of file

  pub letters-are : letters x ≡ c.letters
  letters-are = ap (λ (d : Counts). d.letters) (valid-sizes file c (holds-valid h))

  -- there are configurations, and at most 256
  pub count-few : block.count ≤ 256
  count-few = omega (arith, holds-count h, holds-few h)

  pub count-some : 1 ≤ block.count
  count-some = omega (arith, holds-count h, some-configuration x (valid-well_formed file c (holds-valid h)) 256 (holds-few h))

  pub result-length : length (bytes_of (unfolded (automaton_of file) 256)) ≡ 12 + c.letters + block.count + 6 * block.plain
  result-length = omega (arith, unfolded-length x 256, letters-are, holds-count h, holds_plain h)

  module _ (fits : block.plain ≤ 2048) where
    pub arcs-length : length (arcs_bytes (map as_arc (plains_of_many w block 0 block.count))) ≡ 6 * block.plain
    arcs-length = ap (λ l. length (arcs_bytes (map as_arc l))) (holds-plains h fits) ∙ omega (arith, plain-length (plain_arcs x 256), holds_plain h)

    -- what is written, part by part
    pub result_parts : (set : List ℕ) → view block.count set ≡ final_set (automaton_of file) (configurations (automaton_of file) 256)
        → bytes_of (unfolded (automaton_of file) 256) ≡ (header_bytes (plain_counts c.letters block.count block.plain) ++ (automaton_of file).alphabet) ++ (map flag_byte (view block.count set) ++ arcs_bytes (map as_arc (plains_of_many w block 0 block.count)))
    result_parts set e =
        let f = letters-are in
        let m = holds-count h in
        let n = holds_plain h in
        let counts : plain_counts (letters x) (length (configurations x 256)) (length (plain_arcs x 256)) ≡ plain_counts c.letters block.count block.plain = λ i. plain_counts (f i) (sym m i) (sym n i) in
        unfolded-parts x 256
        ∙ ap₂ (λ (d : Counts) (t : List ℕ). (header_bytes d ++ x.alphabet) ++ t) counts (ap₂ (λ u l. map flag_byte u ++ arcs_bytes (map as_arc l)) (sym e) (sym (holds-plains h fits)))

-- the flags of k states
pub flags-size : (k : ℕ) (set : List ℕ) → length (map flag_byte (view k set)) ≡ k
flags-size k set = length-map (view k set) flag_byte ∙ length-view k set
