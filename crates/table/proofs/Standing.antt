-- Standing: the configurations that stand in the words say which of them are final; an automaton that is built tells its plain arcs to a
-- step, over the list or by the file, also where words elsewhere were written.
use mathlib.Core.Path.{◌∙◌, ◌≡◌, ap, refl, subst, sym}
use mathlib.Core.Logic.{◌↔◌, ◌⊎◌}
use mathlib.Core.Bool.{◌&&◌}
use mathlib.Core.List.{List, map}
use mathlib.Core.Option.{some}
use Prim.Native.Nat.{◌*◌, ◌+◌, ◌<◌, ◌≤◌, ℕ}
use native.Mathlib.Omega.{arith}
use lib.Dec.{T, ltb}
use lib.ListN.{drop, get_or, get_elem?, length}
use Rattle.automata.specs.Automaton.{Automaton, Configuration, letters}
use Rattle.automata.specs.Lists.{Each}
use Rattle.automata.specs.Unfolding.{configurations, final_set, plain_arcs}
use Rattle.file_fields.specs.Parts.{first_arc, flag_bytes}
use Rattle.file_fields.specs.declared.Counts.{Counts}
use Rattle.format.specs.Decoding.{automaton_of, decoded, is_final}
use Rattle.format.specs.Reading.{reading_of}
use Rattle.file_laws.proofs.Laws.{file-seen, valid-arcs, valid-decoded, valid-lies, valid-ranges, valid-sizes, valid-well_formed}
use Rattle.word_layout.specs.Layout.{Placed, block_end, configs, map_end, offsets}
use Rattle.word_layout.specs.declared.Block.{Block}
use Rattle.word_fields.specs.Frame.{Kept}
use Rattle.word_sets.specs.Sets.{in_set, view}
use Rattle.word_rows.specs.Rows.{Closure, Link, related}
use Rattle.table_operations.specs.Arcs.{Indexed, Linked, Walkable}
use Rattle.table_operations.proofs.Laws.{Good, indexed-kept, linked-kept}
use Rattle.std.specs.Prelude.{Ok, Some}
use Rattle.table_configurations.proofs.Laws.{configured-kept, placed-kept}
use Rattle.table_explore.specs.Explores.{Explores}
use Rattle.table_explore.proofs.Laws.{configurations-packed}
use Rattle.table_sets.specs.Stepping.{Room, Tells}
use Rattle.table_sets.proofs.Laws.{tells-kept}
use Rattle.table_file_steps.specs.FileSteps.{Findable}
use Rattle.table_file_steps.proofs.Laws.{findable-same, map-kept}
use Rattle.table_live.specs.Steps.{Outgoing, Steppable}
use Rattle.table.specs.Built.{Built, Stored}
use Rattle.table.specs.Finals.{flag_place, is_final_in, state_in}
use Rattle.table.specs.Opening.{Holds}
use Rattle.table.specs.Standing.{Numbered, Raised, Stands}
use Rattle.table.proofs.BuildBlock.{explored-built, explored-stored, explored-told, stored-kept}
use Rattle.table.proofs.FileArcs.{built-findable, built-outgoing}
use Rattle.table.proofs.FinalLaws.{configurations-states, final-view, flag_inside}
use Rattle.table.proofs.Opening.{holds-count, registers-are, valid-walkable}

-- the letters of a valid file's automaton are those of its counts, at most 64
pub letters-are : (file : List ℕ) (c : Counts) → reading_of file ≡ Ok c → letters (automaton_of file) ≡ c.letters
letters-are file c e = ap (λ (d : Counts). d.letters) (valid-sizes file c e)

pub letters-few : (file : List ℕ) (c : Counts) → reading_of file ≡ Ok c → letters (automaton_of file) ≤ 64
letters-few file c e = omega (arith, letters-are file c e, (valid-ranges file c e).letters)

-- ---- the final ones among the configurations that stand in the words
module _ {file : List ℕ} {c : Counts} {w : List ℕ} {count : ℕ} (h : Numbered file c w count) where
  abbrev y : Automaton
  y = automaton_of file

  flagged : y.finals ≡ map is_final (flag_bytes c file)
  unfolding decoded
  flagged = ap (λ (x : Automaton). x.finals) (valid-decoded file c h.valid)

  good : Each (Good c.registers) (configurations y 256)
  good = (configurations-packed y c.registers c.arcs (drop (first_arc c) file) (valid-ranges file c h.valid).registers (registers-are file c h.valid) (valid-arcs file c h.valid) (valid-lies file c h.valid).ok 256).1

  inside : (i : ℕ) (d : Configuration) → get_elem? (configurations y 256) i ≡ some d → d.state < c.states
  inside i d e = omega (arith, configurations-states y (valid-well_formed file c h.valid) 256 i d e, ap (λ (d : Counts). d.states) (valid-sizes file c h.valid))

  -- the flag of each is in the file
  pub numbered-flags : (i : ℕ) → i < count → flag_place c (state_in w i) < length file
  numbered-flags = flag_inside y c file flagged c.registers (valid-ranges file c h.valid).registers w count (configurations y 256) h.stored h.many good inside (file-seen file c h.valid).there

  -- the set that the flags make is that of the final configurations
  pub numbered-finals : (set : List ℕ) → ((j : ℕ) → in_set set j ≡ (ltb j count && is_final_in file c w j)) → view count set ≡ final_set (automaton_of file) (configurations (automaton_of file) 256)
  numbered-finals set e = (final-view y c file flagged c.registers (valid-ranges file c h.valid).registers w count (configurations y 256) h.stored h.many good inside set e).0

-- those of an open file stand in the words
pub holds-numbered : {file : List ℕ} {c : Counts} {w : List ℕ} {block : Block} → Holds file c w block → Numbered file c w block.count
holds-numbered h =
    let few = h.explored.block.configured.few in
    record { valid = h.valid; few = few; there = omega (arith, few, h.placed.above, h.placed.block); many = holds-count h; stored = h.explored.block.table }

-- ---- an automaton that is built
-- what exploring leaves, with its rows closed
module _ (file : List ℕ) {c : Counts} {w w' : List ℕ} (block : Block) (e : reading_of file ≡ Ok c) (place : Placed w block.base) (indexed : Indexed c file w) (linked : Linked c file w)
    (found : Explores (automaton_of file) 256 w block.base (Some (record { count = block.count; plain = block.plain }))) (kept : Kept block.base (block.base + 4 * block.count) w w')
    (closed : (i j : ℕ) → i < block.count → T (related w' block.base i j) ↔ Closure (Link block.count (related w block.base)) i j) where
  few : block.count ≤ 256
  few = found.block.configured.few

  below : (j : ℕ) → j < map_end → get_or w' j 0 ≡ get_or w j 0
  below j l = kept.below j (omega (arith, place.above))

  walk : Walkable c file
  walk = valid-walkable file c e

  built : Built (automaton_of file) 256 w' block
  built = explored-built (automaton_of file) 256 found few place.above kept closed (omega (arith, letters-few file c e))

  stored : Stored (automaton_of file) 256 w' block.count
  stored = explored-stored (automaton_of file) 256 found few place.above kept

  pub closed-stands : Stands file c w' block
  closed-stands =
      let d = valid-decoded file c e in
      record {
        numbered = record { valid = e; few = few; there = omega (arith, few, place.above, place.block, kept.long); many = built.many; stored = stored };
        built = built;
        placed = placed-kept kept.long place;
        indexed = indexed-kept w w' walk (λ j g l. below j (omega arith)) indexed;
        linked = linked-kept w w' walk (λ j g l. below j (omega arith)) linked;
        findable = built-findable file c walk.lies (subst (λ (x : Automaton). Built x 256 w' block) d built) (subst (λ (x : Automaton). Stored x 256 w' block.count) d stored)
            (configured-kept (λ j g l. below j l) found.block.configured);
      }

  pub closed-raised : Raised file c w' block
  closed-raised = record { stands = closed-stands; tells = explored-told (automaton_of file) 256 found few place.above kept closed }

module _ {file : List ℕ} {c : Counts} {w : List ℕ} {block : Block} (h : Stands file c w block) where
  pub stands-numbered : Numbered file c w block.count
  stands-numbered = h.numbered

  -- how many configurations there are
  pub stands-many : block.count ≡ length (configurations (automaton_of file) 256)
  stands-many = h.numbered.many

  pub stands-few : block.count ≤ 256
  stands-few = h.numbered.few

  -- its block tells its plain arcs
  pub stands-tells : Tells (letters (automaton_of file)) (plain_arcs (automaton_of file) 256) w block
  stands-tells = h.built.tells

  -- a step can be taken wherever there is room for the sets of the letters
  pub stands-steps : {acc : ℕ} → Room w block.base acc → Steppable file c w block acc
  stands-steps r = record { room = r; listed = h.built.tells.listed; walkable = valid-walkable file c h.numbered.valid; indexed = h.indexed; linked = h.linked; findable = h.findable }

  -- and is told the plain arcs
  pub stands-outgoing : Outgoing file c w block (plain_arcs (automaton_of file) 256)
  stands-outgoing =
      let d = valid-decoded file c h.numbered.valid in
      subst (λ (x : Automaton). Outgoing file c w block (plain_arcs x 256)) (sym d)
      (built-outgoing file c (valid-lies file c h.numbered.valid) (subst (λ (x : Automaton). Built x 256 w block) d h.built) (subst (λ (x : Automaton). Stored x 256 w block.count) d h.numbered.stored))

  -- a block with as many configurations tells the plain arcs too, and the building's tables are as they were
  pub stands-told : {w' : List ℕ} (other : Block) → length w' ≡ length w → ((j : ℕ) → offsets ≤ j → j < map_end → get_or w' j 0 ≡ get_or w j 0) → other.base ≡ block.base → other.count ≡ block.count
      → Tells (letters (automaton_of file)) (plain_arcs (automaton_of file) 256) w' other → Stands file c w' other
  stands-told {w'} other long same base count tells =
      let few = h.numbered.few in
      let steps = valid-walkable file c h.numbered.valid in
      record {
        numbered = subst (λ (k : ℕ). Numbered file c w' k) (sym count) (record {
          valid = h.numbered.valid;
          few = few;
          there = omega (arith, h.numbered.there, long);
          many = h.numbered.many;
          stored = stored-kept (automaton_of file) 256 w w' block.count long (λ i l. same (configs + i) (omega arith) (omega arith)) h.numbered.stored;
        });
        built = record { many = count ∙ h.built.many; ended = subst (λ (k : ℕ). k ≤ 256) (sym count) h.built.ended; tells = tells };
        placed = subst (λ (b : ℕ). Placed w' b) (sym base) (placed-kept long h.placed);
        indexed = indexed-kept w w' steps (λ j g l. same j g (omega arith)) h.indexed;
        linked = linked-kept w w' steps (λ j g l. same j g (omega arith)) h.linked;
        findable = subst (λ (k : ℕ). Findable w' k) (sym count) (findable-same few same h.findable);
      }

  -- words elsewhere were written: below the tables of the building or above them, and below the block or above it
  pub stands-kept : {w' : List ℕ} {lo hi : ℕ} → (hi ≤ offsets) ⊎ (map_end ≤ lo) → (hi ≤ block.base) ⊎ (block_end block.base ≤ lo) → Kept lo hi w w' → Stands file c w' block
  stands-kept beside apart kept = let same = map-kept block beside apart h.numbered.few kept in stands-told block kept.long same.words refl refl (tells-kept same.rows h.built.tells)
