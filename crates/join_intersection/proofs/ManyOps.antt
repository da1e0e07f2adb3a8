-- ManyOps: what an arc with more than 8 operations decides, and its absence; what states and registers decide alone.
use mathlib.Core.Path.{◌≡◌}
use mathlib.Core.Bool.{◌||◌, false, or-false, or-true, true}
use mathlib.Core.List.{List}
use Prim.Native.Nat.{ℕ}
use borrow.Author.Tests.{ltb-false}
use lib.Dec.{ltb}
use lib.ListN.{length}
use Rattle.automata.specs.Automaton.{Arc, Automaton}
use Rattle.automata.specs.Lists.{Each, any}
use Rattle.format.specs.Encoding.{sizes}
use Rattle.std.specs.Prelude.{None}
use Rattle.file_fields.specs.declared.Reason.TheVariants.{JoinedBeyondALimit}
use Rattle.format.specs.Refusals.{refused}
use Rattle.join_parts.specs.Joining.{beyond, many_counts, many_ops, written_of}
use Rattle.join_parts.proofs.Laws.{FewOps, each-imply, none_passes}
use Rattle.join_product_count.specs.ProductArcs.{with_arcs}

pub many-refused : (x : Automaton) (space : ℕ) → any many_ops x.arcs ≡ true → written_of x space ≡ refused JoinedBeyondALimit None
unfolding written_of beyond
many-refused x space e = rw (e, or-true (many_counts (sizes x)))

pub none-many : (l : List Arc) → any many_ops l ≡ false → Each FewOps l
none-many l e = each-imply (λ (a : Arc). many_ops a ≡ false) FewOps (λ (a : Arc) (k : many_ops a ≡ false). ltb-false 8 (length a.ops) k) l (none_passes many_ops l e)

-- however many arcs there are
pub large_refused : (x : Automaton) (space : ℕ) → many_counts (with_arcs 0 (sizes x)) ≡ true → written_of x space ≡ refused JoinedBeyondALimit None
unfolding written_of beyond
large_refused x space e = rw (rw (or-false (ltb 256 (sizes x).states || ltb 8 (sizes x).registers)) at e)
