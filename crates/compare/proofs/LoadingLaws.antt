-- LoadingLaws: an automaton that stands in its block within the limits, its arcs with the new numbers of their letters and pruned, is
-- prepared to be compared, and stays so while another one is built.
use mathlib.Core.Path.{◌∙◌, ◌≡◌, ap, refl, sym}
use mathlib.Core.List.{List, Memᴰ}
use mathlib.Core.Option.{some}
use Prim.Native.Nat.{ℕ, ◌<◌, ◌≤◌}
use native.Mathlib.Omega.{arith}
use lib.ListN.{length}
use Rattle.automata.specs.Automaton.{Automaton, Configuration}
use Rattle.automata.specs.Live.{PlainArc}
use Rattle.automata.specs.Unfolding.{configurations, final_set, plain_arcs}
use Rattle.relettering.specs.Relettering.{with_letters}
use Rattle.relettering.proofs.Laws.{configurations-same, finals-same, plain-same}
use Rattle.file_fields.specs.declared.Counts.{Counts}
use Rattle.format.specs.Decoding.{automaton_of}
use Rattle.format.specs.Limits.{Fits}
use Rattle.file_laws.proofs.Laws.{valid-well_formed}
use Rattle.file_pair.specs.Lettered.{automaton_over}
use Rattle.word_layout.specs.declared.Block.{Block}
use Rattle.word_sets.specs.Sets.{view}
use Rattle.table_sets.specs.Stepping.{Tells}
use Rattle.table_sets.proofs.Laws.{SameBlock, tells-kept}
use Rattle.table_relettering.specs.Relisting.{Relisted}
use Rattle.table_relettering.proofs.Laws.{Relisted-tells}
use Rattle.table.specs.Standing.{Raised}
use Rattle.table.proofs.Laws.{letters-few, plain-fit, stands-few, stands-many, stands-numbered}
use Rattle.compare.specs.Loading.{Comparable, Prepared}
use Rattle.compare.specs.declared.loading.Standing.{Standing}

module _ {file w w' : List ℕ} {c : Counts} {block : Block} (new all : List ℕ) (new-few : length new ≤ 64) (few : length all ≤ 64) (s : Raised file c w block) (r : Relisted new w w' block) where
  abbrev x : Automaton
  x = automaton_of file

  -- the letters of its plain arcs are its own
  own : (a : PlainArc) → Memᴰ a (plain_arcs x 256) → (l : ℕ) → a.letter ≡ some l → l < 255
  own a m l e =
      let valid = (stands-numbered s.stands).valid in
      let p = plain-fit x (valid-well_formed file c valid) 256 (omega (arith, stands-many s.stands, stands-few s.stands)) a m in
      omega (arith, p.lettered l e, letters-few file c valid)

  -- over the letters `all` it is told, once its listed arcs have the new numbers of their letters
  over-tells : Tells (length all) (plain_arcs (automaton_over new all file) 256) w' block
  over-tells = rw (plain-same x new all 256) (Relisted-tells r new-few (omega arith) own s.tells)

  -- the block `left` is the block with fewer arcs, which tell as much
  pub prepared : {w'' : List ℕ} {left : Block} (f : List ℕ) → block.plain ≤ 2048 → view block.count f ≡ final_set (automaton_of file) (configurations (automaton_of file) 256) → left.count ≡ block.count → left.plain ≤ block.plain
      → ((letters : ℕ) (arcs : List PlainArc) → letters ≤ 64 → Tells letters arcs w' block → Tells letters arcs w'' left) → Prepared (automaton_over new all file) 256 w'' (record { block = left; finals = f })
  unfolding with_letters
  prepared f less final same fewer told = record {
    many = same ∙ stands-many s.stands ∙ ap (λ (cs : List Configuration). length cs) (sym (configurations-same x new all 256));
    few = omega arith;
    tells = told (length all) (plain_arcs (automaton_over new all file) 256) few over-tells;
    final = ap (λ (n : ℕ). view n f) same ∙ final ∙ sym (finals-same x new all 256);
  }

-- words elsewhere were written
pub prepared-kept : {x : Automaton} {L : ℕ} {w w' : List ℕ} {s : Standing} → SameBlock s.block.base w w' → Prepared x L w s → Prepared x L w' s
prepared-kept b p = record { many = p.many; few = p.few; tells = tells-kept b p.tells; final = p.final }

-- ---- two automata over the letters `all`
-- which are at most 64
pub over-few : (new all file : List ℕ) → Fits (automaton_over new all file) → length all ≤ 64
unfolding with_letters
over-few new all file f = f.ranges.letters

pub over-comparable : (one two all s t : List ℕ) {w : List ℕ} {x y : Standing} → Prepared (automaton_over one all s) 256 w x → Prepared (automaton_over two all t) 256 w y
    → Comparable (automaton_over one all s) (automaton_over two all t) 256 w x y all
unfolding with_letters
over-comparable one two all s t p q = record { first = p; second = q; shared = refl; spelled = refl }
