-- `join_parts::groups::write_entry` meets its contract.
use Rattle.format.specs.Decoding.{letter_of}
use Rattle.join_parts.proofs.groups.write_entry.Goals as goal

pub returns : goal.returns
unfolding letter_of
returns c = c.write_plain_arc.ensures
