-- `table::judging::make_ready` meets its contract: the rows are closed (Standing), and what is noted and linked behind that leaves the block
-- (JudgingLaws).
use mathlib.Core.Path.{◌∙◌, ◌≡◌, refl}
use mathlib.Core.Logic.{inl, inr}
use native.Mathlib.Omega.{arith}
use lib.ListN.{length}
use Rattle.automata.specs.Automaton.{letters}
use Rattle.automata.specs.Unfolding.{plain_arcs}
use Rattle.format.specs.Decoding.{automaton_of}
use Rattle.file_laws.proofs.Laws.{valid-ranges}
use Rattle.table.specs.Standing.{Stands}
use Rattle.table.proofs.JudgingLaws.{Noted, Readied, letters-there, noted-filed, noted-linked, noted-thin, Readied-numbered}
use Rattle.table.proofs.Standing.{closed-stands, letters-few, stands-kept}
use Rattle.table.proofs.judging.make_ready.Goals as goal
use Rattle.table.proofs.judging.make_ready.Goals.{then-left-le2048, else-left-le2048, After-close_rows, After-store, After-thin-left, Joined-left-le2048}

pub close_rows-requires : goal.close_rows-requires
close_rows-requires c = (c.requires.explored.block.configured.few, (omega (arith, c.requires.explored.block.configured.few, c.requires.placed.block), λ i l. (c.requires.explored.block.rows i i l).1 (inl refl)))

closed : (k : goal.After-close_rows) → Stands k.args.file.now k.args.c k.close_rows.new.w k.args.block
closed k = closed-stands _ _ k.requires.valid k.requires.placed k.requires.indexed k.requires.linked k.requires.explored k.close_rows.ensures.kept k.close_rows.ensures.closed

pub final_configurations-finals-requires : goal.final_configurations-finals-requires
final_configurations-finals-requires c = (closed (goal.at.final_configurations-finals-requires c).After-close_rows).numbered

noted : (s : goal.After-store) → Stands s.args.file.now s.args.c s.close_rows.new.w s.args.block → Noted s.args.file.now s.args.c s.store.new.w s.args.block
noted s k = record {
  enough = omega (arith, s.requires.enough, s.store.ensures.kept.long, s.close_rows.ensures.kept.long);
  first = s.requires.first;
  stands = stands-kept k (inr (omega arith)) (inr (omega (arith, s.requires.first))) s.store.ensures.kept;
  finals = rw s.store.ensures.set s.final_configurations-finals.ensures;
}

pub thin-left-requires : goal.thin-left-requires
thin-left-requires c =
    let n = noted (goal.at.thin-left-requires c).After-store (closed (goal.at.thin-left-requires c).After-close_rows) in (
      (valid-ranges c.args.file.now c.args.c n.stands.numbered.valid).letters,
      (n.stands.numbered.few, (omega (arith, n.first), (n.stands.placed.block, n.stands.built.tells.listed))),
    )

-- ---- arcs that add nothing are dropped
thinned : (t : goal.After-thin-left) → Noted t.args.file.now t.args.c t.store.new.w t.args.block → Noted t.args.file.now t.args.c t.thin-left.new.w t.thin-left.result
thinned t n =
    let x = automaton_of t.args.file.now in
    noted-thin n t.thin-left.ensures.kept t.thin-left.ensures.same.0 t.thin-left.ensures.same.1 (t.thin-left.ensures.told (letters x) (plain_arcs x 256) (letters-few t.args.file.now _ n.stands.numbered.valid) n.stands.built.tells)

pub link-requires : goal.link-requires
link-requires c =
    let n = thinned (goal.at.link-requires c).After-thin-left (noted (goal.at.link-requires c).After-store (closed (goal.at.link-requires c).After-close_rows)) in (
      (valid-ranges c.args.file.now _ n.stands.numbered.valid).letters,
      (c.if-left-le2048.true, (omega (arith, n.first), (omega (arith, n.first), (omega (arith, n.enough), (n.stands.built.tells.some, n.stands.built.tells.listed c.if-left-le2048.true))))),
    )

-- ---- the arcs are found by letter and source, or by the file
readied : (j : goal.Joined-left-le2048) → Noted j.args.file.now j.args.c j.thin-left.new.w j.thin-left.result → Readied j.args.file.now j.args.c j.if-left-le2048.w j.thin-left.result
readied j n = elim j.if-left-le2048.branch [
  | then-left-le2048 w ↦ rw w.w-is (noted-linked n w.if-left-le2048.true w.link.ensures.kept w.link.ensures.linked)
  | else-left-le2048 w ↦ rw w.w-is (noted-filed n w.if-left-le2048.false)
]

-- the words are as many as they were
long : (j : goal.Joined-left-le2048) → length j.if-left-le2048.w ≡ length j.args.w.now
long j = j.if-left-le2048.auto.w ∙ j.thin-left.ensures.kept.long ∙ j.store.ensures.kept.long ∙ j.close_rows.ensures.kept.long

pub number_letters-requires : goal.number_letters-requires
number_letters-requires c =
    let n = thinned (goal.at.number_letters-requires c).After-thin-left (noted (goal.at.number_letters-requires c).After-store (closed (goal.at.number_letters-requires c).After-close_rows)) in
    let valid = n.stands.numbered.valid in
    (letters-there c.args.file.now _ valid, ((valid-ranges c.args.file.now _ valid).letters, omega (arith, (readied (goal.at.number_letters-requires c).Joined-left-le2048 n).enough)))

pub shape_of-w : goal.shape_of-w
shape_of-w c = c.number_letters.ensures.kept.long ∙ long (goal.at.shape_of-w c).Joined-left-le2048

pub returns : goal.returns
returns c =
    let n = thinned (goal.at.returns c).After-thin-left (noted (goal.at.returns c).After-store (closed (goal.at.returns c).After-close_rows)) in
    record {
      same = c.number_letters.ensures.kept.long ∙ long (goal.at.returns c).Joined-left-le2048;
      ready = Readied-numbered n.stands.numbered.valid (readied (goal.at.returns c).Joined-left-le2048 n) c.number_letters.ensures.kept c.number_letters.ensures.numbered;
    }
