-- `table_configurations::add_configuration` meets its contract: the word joins the table and its chain, then row `count` holds `count` alone.
use Rattle.table_configurations.proofs.FieldLists.{row-alone}
use Rattle.table_configurations.proofs.TableGrowth.{new-kept, configured-new, tabled-new}
use Rattle.table_configurations.proofs.add_configuration.Goals as goal

pub returns : goal.returns
returns c = let row = row-alone c.store.new.w c.args.base c.args.count c.args.count c.«empty».result c.store.ensures.set c.«empty».ensures c.«with».ensures in record { kept = new-kept c.requires.2 c.requires.0 c.add_word.ensures.kept c.add_word.ensures.word c.store.ensures.kept row; configured = configured-new c.requires.2 c.requires.0 c.add_word.ensures.kept c.add_word.ensures.word c.store.ensures.kept row c.requires.1 c.requires.3 (c.add_word.ensures.chain c.requires.3.chain); tabled = tabled-new c.requires.2 c.requires.0 c.add_word.ensures.kept c.add_word.ensures.word c.store.ensures.kept row }
