-- `table_configurations::note_arc` meets its contract: the empty move is noted, then the plain arc listed.
use Rattle.table_configurations.proofs.TableGrowth.{arc-kept, tabled-arc}
use Rattle.table_configurations.proofs.note_arc.Goals as goal

pub returns : goal.returns
returns c = record { kept = arc-kept c.note_empty_move.ensures.kept c.list_arc.ensures.kept; tabled = tabled-arc c.args.c c.args.plain c.args.letter c.args.target c.requires.3 c.note_empty_move.ensures.kept c.note_empty_move.ensures.noted c.list_arc.ensures.kept c.list_arc.ensures.listed }
