-- `table_explore::walk::prepare` meets its contract: what each call writes, the later ones leave.
use native.Mathlib.Omega.{arith}
use mathlib.Core.Path.{◌∙◌, refl}
use mathlib.Core.List.{[]}
use Rattle.word_fields.proofs.Laws.{but_low, but_then, but_wider}
use Rattle.automata.specs.Exploration.{add, has, number}
use Rattle.automata.specs.Lists.{any}
use Rattle.table_configurations.proofs.Laws.{configured-none, placed-kept, tabled-none}
use Rattle.table_operations.proofs.Laws.{indexed-kept, linked-kept}
use Rattle.table_explore.proofs.walk.prepare.Goals as goal

pub add_configuration-requires : goal.add_configuration-requires
add_configuration-requires c = (omega arith, omega arith, placed-kept (c.fill.ensures.kept.long ∙ c.link_arcs.ensures.kept.long ∙ c.index_arcs.ensures.kept.long) c.requires.1, configured-none c.fill.ensures.set)

pub returns : goal.returns
unfolding number add has any
returns c = record {
  kept = but_then (but_low (omega arith) (omega arith) (omega arith) c.index_arcs.ensures.kept)
      (but_then (but_low (omega arith) (omega arith) (omega arith) c.link_arcs.ensures.kept)
      (but_then (but_low (omega arith) (omega arith) (omega arith) c.fill.ensures.kept) (but_wider (omega arith) (omega arith) (omega arith) (omega arith) c.add_configuration.ensures.kept)));
  arcs = (
    indexed-kept _ _ c.requires.0 (λ j g h. c.add_configuration.ensures.kept.below j (omega arith) ∙ c.fill.ensures.kept.below j (omega arith) ∙ c.link_arcs.ensures.kept.below j h) c.index_arcs.ensures.indexed,
    linked-kept _ _ c.requires.0 (λ j g h. c.add_configuration.ensures.kept.below j h ∙ c.fill.ensures.kept.below j (omega arith)) c.link_arcs.ensures.linked,
  );
  first = (c.add_configuration.ensures.configured, c.add_configuration.ensures.tabled 0 [] [] (tabled-none _ _) refl);
}
