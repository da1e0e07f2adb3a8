-- FileArcs: where the arcs of the file lead from a configuration is where its plain arcs do.
use mathlib.Core.Path.{◌∙◌, ◌≡◌, ap, refl, sym}
use mathlib.Core.List.Memᴰ
use mathlib.Core.List.{List, [], map}
use mathlib.Core.Option.{some-injective, some}
use Prim.Native.Nat.{◌+◌, ◌<◌, ◌≤◌, ℕ}
use native.Mathlib.Omega.{arith}
use lib.ListN.{drop, get_or, get_elem?, length}
use Rattle.automata.specs.Automaton.{Automaton, Configuration, Run, letters}
use Rattle.automata.specs.Lists.{Each}
use Rattle.automata.specs.Live.{Moves}
use Rattle.automata.specs.Performing.{Move, successors}
use Rattle.automata.specs.Unfolding.{configurations, plain_arcs, same_configuration}
use Rattle.automata.proofs.Laws.{distinct, each_at, each-mem, get_elem?-lt, moves_from, moves-to, one_number, same_configuration-iff, successors-iff}
use Rattle.word_layout.specs.Layout.{configs}
use Rattle.table_operations.specs.Packed.{Hop, hops, pack}
use Rattle.table_configurations.specs.Tables.{Configured}
use Rattle.table_operations.proofs.Laws.{Good, Packs, hops-packed, pack-inj, pack_hop}
use Rattle.table_explore.proofs.Laws.{configurations-packed}
use Rattle.format.specs.Decoding.{decoded}
use Rattle.format.specs.Placed.{Lies}
use Rattle.file_fields.specs.Parts.{first_arc}
use Rattle.file_fields.specs.declared.Counts.{Counts}
use Rattle.file_fields.proofs.Laws.{letters-length}
use Rattle.word_layout.specs.declared.Block.{Block}
use Rattle.table_file_steps.specs.FileSteps.{Findable, FromFile}
use Rattle.table_live.specs.Steps.{Outgoing}
use Rattle.table_sets.specs.Stepping.{Held}
use Rattle.table.specs.Built.{Built, Stored}
use Rattle.table_sets.proofs.Laws.{held-each}
use Rattle.table.proofs.FinalLaws.{word_in}

-- the automaton of a file is built
module _ (file : List ℕ) (c : Counts) {L : ℕ} {w : List ℕ} {block : Block} (lies : Lies c.registers c.arcs (first_arc c) file) (b : Built (decoded c file) L w block) (stored : Stored (decoded c file) L w block.count) where
  abbrev x : Automaton
  x = decoded c file

  abbrev all : List Configuration
  all = configurations (decoded c file) L

  fits : length (configurations (decoded c file) L) ≤ L
  fits = rw (← b.many) b.ended

  good : Each (Good c.registers) (configurations (decoded c file) L)
  unfolding decoded
  good = (configurations-packed (decoded c file) c.registers c.arcs (drop (first_arc c) file) lies.registers refl refl lies.ok L).1

  packed : (d : Configuration) → Good c.registers d → Packs c.registers (hops c.arcs (drop (first_arc c) file) (pack d)) (successors (decoded c file) d)
  unfolding decoded successors
  packed d g = hops-packed c.registers lies.registers d g c.arcs (drop (first_arc c) file) lies.ok

  entry : (i : ℕ) → i < block.count → (d : Configuration) × (get_elem? (configurations (decoded c file) L) i ≡ some d) × (get_or w (configs + i) 0 ≡ pack d)
  entry = word_in w block.count all stored b.many

  -- the word of configuration d, and no other word, is d packed
  word_of : (i : ℕ) (d : Configuration) → get_elem? (configurations (decoded c file) L) i ≡ some d → get_or w (configs + i) 0 ≡ pack d
  word_of i d e =
      let f = entry i (rw b.many (get_elem?-lt all i e)) in
      f.2 ∙ ap pack (some-injective f.0 d (sym f.1 ∙ e))

  of_word : (i : ℕ) (d : Configuration) → i < block.count → Good c.registers d → get_or w (configs + i) 0 ≡ pack d → get_elem? (configurations (decoded c file) L) i ≡ some d
  of_word i d h g e =
      let f = entry i h in
      f.1 ∙ ap some (pack-inj c.registers lies.registers f.0 d (each_at (Good c.registers) all i f.1 good) g (sym f.2 ∙ e))

  one : (i j : ℕ) {d : Configuration} → get_elem? (configurations (decoded c file) L) i ≡ some d → get_elem? (configurations (decoded c file) L) j ≡ some d → i ≡ j
  one i j = one_number same_configuration same_configuration-iff all i j (distinct (decoded c file) L fits)

  -- each configuration is found in one place
  pub built-findable : Configured w block.count → Findable w block.count
  built-findable f = record {
    configured = f;
    apart = λ i t h g e. let u = entry i h in one i t u.1 (of_word t u.0 g (each_at (Good c.registers) all i u.1 good) (sym e ∙ u.2));
  }

  -- ---- THE LAW of the arcs in the file
  module _ (s l j : ℕ) (hs : s < block.count) where
    own : Good c.registers (entry s hs).0
    own = each_at (Good c.registers) all s (entry s hs).1 good

    hops-are : hops c.arcs (drop (first_arc c) file) (get_or w (configs + s) 0) ≡ map pack_hop (successors (decoded c file) (entry s hs).0)
    hops-are = rw (entry s hs).2 (packed (entry s hs).0 own).0

    onward : FromFile file c w block s l j → (t : ℕ) × Moves (plain_arcs (decoded c file) L) s (some l) t × Run (Moves (plain_arcs (decoded c file) L)) t [] j
    onward f =
        let q = Memᴰ.of_map pack_hop (successors (decoded c file) (entry s hs).0) (rw hops-are at f.among) in
        let m = q.0 in
        let spells : m.letter ≡ some l = ap (λ (h : Hop). h.letter) q.2 ∙ f.letter in
        let moved = moves-to (decoded c file) L fits s (entry s hs).1 ((successors-iff (decoded c file) (entry s hs).0 m.letter m.to).0 q.1) in
        let found = of_word f.to m.to f.few (each-mem (λ (y : Move). Good c.registers y.to) (packed (entry s hs).0 own).1 q.1) (f.is ∙ sym (ap (λ (h : Hop). h.to) q.2)) in
        let same : moved.0 ≡ f.to = one moved.0 f.to moved.1 found in
        (f.to, Memᴰ.cast (λ i. record { source = s; letter = (sym spells) i; target = (sym same) i }) moved.2, (b.tells.rows f.to j f.few).0 f.leads)

    back : (t : ℕ) × Moves (plain_arcs (decoded c file) L) s (some l) t × Run (Moves (plain_arcs (decoded c file) L)) t [] j → FromFile file c w block s l j
    back q =
        let made = moves_from (decoded c file) L fits s (entry s hs).1 q.1 in
        let few : q.0 < block.count = rw b.many (get_elem?-lt all q.0 made.1) in
        record {
          hop = record { letter = some l; to = pack made.0 };
          among = rw hops-are (Memᴰ.map pack_hop ((successors-iff (decoded c file) (entry s hs).0 (some l) made.0).1 made.2));
          letter = refl;
          to = q.0;
          few = few;
          is = word_of q.0 made.0 made.1;
          leads = (b.tells.rows q.0 j few).1 q.2;
        }

  pub file-held : Held block.count (letters (decoded c file)) (plain_arcs (decoded c file) L) (FromFile file c w block)
  file-held = held-each b.tells.within (λ s l j h g. (onward s l j h, back s l j h))

  -- the plain arcs are told
  pub built-outgoing : Outgoing file c w block (plain_arcs (decoded c file) L)
  unfolding decoded
  built-outgoing =
      let many = letters-length c file (omega (arith, lies.fits)) in
      record { told = rw many at b.tells; filed = λ l. rw many at file-held }
