use Rattle.std.proofs.Common.{◌≡◌, length}
use Rattle.book_draft.proofs.Declarations.mark_reached.Given as goal

abbrev pub invariant-loop : goal.invariant-loop
invariant-loop l =
    (length l.self.states.items ≡ length l.fn.self.states.items)
    × (l.self ≡ record { text = l.fn.self.text; registers = l.fn.self.registers; symbols = l.fn.self.symbols; letters = l.fn.self.letters; states = l.self.states; arcs = l.fn.self.arcs })
