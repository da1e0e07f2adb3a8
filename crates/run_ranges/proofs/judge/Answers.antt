-- The bytes that tell a word's places stand in the buffer.
use Rattle.book_ranges.proofs.Laws.{told-most}
use Rattle.run_ranges.proofs.judge.Goals as goal

pub slice_bounds-accepts_ranges-end : goal.slice_bounds-accepts_ranges-end
slice_bounds-accepts_ranges-end c = told-most _ _ _ _ _ c.read_places.ensures.answer c.read_places.ensures.written c.in-Ok.is
