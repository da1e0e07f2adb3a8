-- `table::judging::live_set` meets its contract: row 0 is the live set of the empty word, and the walk goes on from it, by the list or by the
-- file.
use mathlib.Core.Path.{◌∙◌, ◌≡◌, ap₂, subst, sym}
use mathlib.Core.List.{List}
use Prim.Native.Nat.{ℕ}
use native.Mathlib.Omega.{arith}
use Rattle.automata.specs.Unfolding.{plain_arcs}
use Rattle.file_fields.specs.Parts.{letter_bytes}
use Rattle.format.specs.Decoding.{automaton_of}
use Rattle.file_laws.proofs.Laws.{valid-alphabet, valid-ranges}
use Rattle.word_fields.proofs.Laws.{kept_same}
use Rattle.word_sets.specs.Sets.{ε_closed_set, view}
use Rattle.table_sets.specs.Stepping.{FromList, Held}
use Rattle.table_sets.proofs.Laws.{tells-start}
use Rattle.table_live.specs.Steps.{live_bytes}
use Rattle.table.specs.Judging.{Live}
use Rattle.table.proofs.JudgingLaws.{letters_apart, letters-many}
use Rattle.table.proofs.Standing.{letters-are}
use Rattle.table.proofs.judging.live_set.Goals as goal
use Rattle.table.proofs.judging.live_set.Goals.{After-load-start}

pub load-start-requires : goal.load-start-requires
load-start-requires c = omega (arith, c.requires.first, c.requires.enough)

-- no empty move leaves the first set
closed : (o : goal.After-load-start) → ε_closed_set o.args.block.count (plain_arcs (automaton_of o.args.file.now) 256) o.load-start.result
closed o = subst (λ (set : List ℕ). ε_closed_set o.args.block.count (plain_arcs (automaton_of o.args.file.now) 256) set) (sym o.load-start.ensures) (tells-start o.requires.built.tells).1

-- what a walk leaves from there
live : (o : goal.After-load-start) (set : List ℕ) → (view o.args.block.count set ≡ live_bytes (letter_bytes o.args.c o.args.file.now) (plain_arcs (automaton_of o.args.file.now) 256) o.args.block.count (view o.args.block.count o.load-start.result) o.args.word.now)
    × ε_closed_set o.args.block.count (plain_arcs (automaton_of o.args.file.now) 256) set → Live o.args.file.now o.args.word.now o.args.w.now o.args.block set
live o set v = record {
  inside = v.1.0;
  is = v.0 ∙ ap₂ (λ (alphabet from : List ℕ). live_bytes alphabet (plain_arcs (automaton_of o.args.file.now) 256) o.args.block.count (view o.args.block.count from) o.args.word.now) (sym (valid-alphabet o.args.file.now o.args.c o.requires.valid)) o.load-start.ensures;
}

pub walk_listed-requires : goal.walk_listed-requires
walk_listed-requires c = c.requires.lettered c.if-block-le2048.true

pub returns-then-block-le2048 : goal.returns-then-block-le2048
returns-then-block-le2048 c = let arcs = plain_arcs (automaton_of c.args.file.now) 256 in
    let held = subst (λ (l : ℕ). Held c.args.block.count l arcs (FromList c.args.w.now c.args.block.base c.args.block.count c.args.block.plain)) (letters-are c.args.file.now c.args.c c.requires.valid) (c.requires.built.tells.held c.if-block-le2048.true) in record { kept = kept_same _ _ _; live = live (goal.at.returns-then-block-le2048 c).After-load-start _ (c.walk_listed.ensures (letter_bytes c.args.c c.args.file.now) arcs c.requires.numbers (letters_apart c.args.file.now c.args.c c.requires.valid) (letters-many c.args.file.now c.args.c c.requires.valid) held (closed (goal.at.returns-then-block-le2048 c).After-load-start)) }

pub walk_file-requires : goal.walk_file-requires
walk_file-requires c = ((c.requires.filed c.if-block-le2048.false).0, (c.if-block-le2048.false, (omega (arith, c.requires.enough), ((valid-ranges c.args.file.now c.args.c c.requires.valid).letters, (c.requires.numbers, letters_apart c.args.file.now c.args.c c.requires.valid)))))

pub returns : goal.returns
returns c = record { kept = c.walk_file.ensures.kept; live = live (goal.at.returns c).After-load-start _ (c.walk_file.ensures.set _ (c.requires.filed c.if-block-le2048.false).1 (closed (goal.at.returns c).After-load-start)) }
