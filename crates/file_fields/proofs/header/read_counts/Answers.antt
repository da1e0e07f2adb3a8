-- The counts, each the number at its place.
use Rattle.file_fields.proofs.header.read_counts.Goals as goal

pub returns : goal.returns
returns c = rw (← c.byte-letters.ensures.0, ← c.double-states.ensures.0, ← c.byte-registers.ensures.0, ← c.byte-symbols.ensures.0, ← c.double-arcs.ensures.0)
