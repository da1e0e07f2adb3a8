-- `join_product_arcs::beside::write_empty_moves` meets its contract.
use Prim.Native.Nat.{◌-◌}
use lib.ListN.{drop}
use Rattle.file_fields.specs.Parts.{first_arc}
use Rattle.format.specs.Decoding.{arcs_of}
use Rattle.format.specs.Encoding.{arcs_bytes}
use Rattle.file_writing.proofs.Laws.{Left}
use Rattle.join_parts.proofs.Laws.{Walk}
use Rattle.join_product_count.specs.ProductArcs.{empty_with}
use Rattle.join_product_arcs.specs.JointArcs.{beside_arc}
use Rattle.join_product_arcs.proofs.beside.write_empty_moves.Given as goal

abbrev pub invariant-loop-i : goal.invariant-loop-i
invariant-loop-i l = Walk l.fn.c l.file (l.fn.c.arcs - l._i) l.from × Left l.at (arcs_bytes (empty_with (beside_arc l.b) l.b.states (arcs_of l.fn.c.arcs (drop (first_arc l.fn.c) l.file)))) l.initial.out l.to (arcs_bytes (empty_with (beside_arc l.b) l.b.states (arcs_of (l.fn.c.arcs - l._i) (drop l.from l.file)))) l.out
