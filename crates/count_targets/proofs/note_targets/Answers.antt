-- `count_targets::note_targets` meets its contract.
use Rattle.std.proofs.Common.{◌+◌, ◌/◌, ◌≡◌, ◌∙◌, ap, arith, inl, inr, rules}
use Rattle.automata.specs.Unfolding.{plain_arcs}
use Rattle.format.specs.Decoding.{automaton_of}
use Rattle.live_table.specs.SetRows.{left_row}
use Rattle.word_sets.specs.Sets.{view}
use Rattle.word_fields.proofs.Laws.{field-same}
use Rattle.word_layout.specs.Layout.{set_table, targets}
use Rattle.word_layout.specs.declared.SetTable.{SetTable}
use Rattle.table.proofs.Laws.{stands-outgoing, stands-steps}
use Rattle.live_building.proofs.Laws.{step_room}
use Rattle.count_targets.specs.Counting.{Counting}
use Rattle.count_targets.proofs.CountingLaws.{counting-few, counting_kept, counting-letters-few, numbered-view}
use Rattle.count_targets.proofs.NotingLaws.{numbers-noted}
use Rattle.count_targets.proofs.note_targets.Goals as goal
use Rattle.count_targets.proofs.note_targets.Goals.{After-step_letters-met}

-- the words are as they were but for the sets of the letters
stepped : (s : goal.After-step_letters-met) → Counting s.args.file.now s.args.c s.step_letters-met.new.w s.args.block s.args.n
stepped s = counting_kept s.requires.counting (inr (omega arith)) s.step_letters-met.ensures.kept

pub step_letters-met-requires : goal.step_letters-met-requires
step_letters-met-requires c = (stands-steps c.requires.counting.stands (step_room c.requires.counting.only c.requires.counting.enough), omega arith)

pub number_letters-requires : goal.number_letters-requires
number_letters-requires c = let h = stepped (goal.at.number_letters-requires c).After-step_letters-met in record { a_bound = (counting-letters-few h, (c.requires.i_lt_n.1, omega (arith, h.enough))); n_bound = (counting-few h, h.rows.chain) }

pub returns : goal.returns
returns c = let v = numbered-view c.requires.counting c.args.i c.requires.i_lt_n.0 in
    let is : c.left-set.result ≡ left_row set_table c.args.w.now c.args.i = c.left-set.ensures ∙ ap (λ (t : SetTable). left_row t c.args.w.now c.args.i) c.set_table.ensures in record {
      kept = search rules;
      before = λ j d. c.number_letters.ensures.before j d ∙ field-same c.args.w.now _ targets j (c.step_letters-met.ensures.kept.below (targets + j / 4) (omega (arith, c.requires.i_lt_n.1)));
      still = counting_kept (stepped (goal.at.returns c).After-step_letters-met) (inl (omega arith)) c.number_letters.ensures.kept;
      noted = numbers-noted (stepped (goal.at.returns c).After-step_letters-met) c.requires.i_lt_n.0 c.left-set.result _ _ _ (ap (view c.args.block.count) is ∙ v.0)
          (c.step_letters-met.ensures.set (plain_arcs (automaton_of c.args.file.now) 256) (stands-outgoing c.requires.counting.stands) (rw (← is) at v.1))
          c.number_letters.ensures.numbers;
    }
