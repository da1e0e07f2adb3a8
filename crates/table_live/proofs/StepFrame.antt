-- StepFrame: words written elsewhere leave what a step asks for, and what tells it the plain arcs, as they were.
use mathlib.Core.List.{List}
use Prim.Native.Nat.{ℕ}
use native.Mathlib.Omega.{arith}
use Rattle.automata.specs.Live.{PlainArc}
use Rattle.file_fields.specs.declared.Counts.{Counts}
use Rattle.word_layout.specs.declared.Block.{Block}
use Rattle.table_operations.proofs.Laws.{indexed-kept, linked-kept}
use Rattle.table_sets.proofs.Laws.{held_same, room-kept, starts-kept, tells-kept}
use Rattle.table_file_steps.proofs.Laws.{SameMap, findable-kept, from-kept}
use Rattle.table_live.specs.Steps.{Outgoing, Steppable}

pub Steppable-kept : {file : List ℕ} {c : Counts} {w w' : List ℕ} {block : Block} {acc : ℕ} → SameMap block w w' → Steppable file c w block acc → Steppable file c w' block acc
Steppable-kept {w = w} {w' = w'} same s =
    record {
      room = room-kept same.rows s.room;
      listed = λ l. starts-kept same.rows (s.listed l);
      walkable = s.walkable;
      indexed = indexed-kept w w' s.walkable (λ j g l. same.words j g (omega arith)) s.indexed;
      linked = linked-kept w w' s.walkable (λ j g l. same.words j g (omega arith)) s.linked;
      findable = findable-kept same s.findable;
    }

pub Outgoing-kept : {file : List ℕ} {c : Counts} {w w' : List ℕ} {block : Block} {arcs : List PlainArc} → SameMap block w w' → Outgoing file c w block arcs → Outgoing file c w' block arcs
Outgoing-kept {file} {c} same o = record { told = tells-kept same.rows o.told; filed = λ l. held_same (λ i m j g. from-kept same file c i g m j) (o.filed l) }
