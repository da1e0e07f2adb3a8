-- BeyondLaws: the test for a limit that is passed answers what it is to (specs/Promises.antt, Beyond).
use mathlib.Core.Path.{◌≡◌, refl}
use mathlib.Core.Logic.{◌↔◌, ⊎_elim}
use mathlib.Core.Bool.{Bool, ◌||◌, false, true}
use native.Mathlib.Omega.{arith}
use lib.Dec.{T, ltb, ltb→lt}
use Rattle.automata.specs.Automaton.{Automaton}
use Rattle.automata.specs.Lists.{any}
use Rattle.automata.proofs.Laws.{any-iff, each-mem, or_iff}
use Rattle.file_fields.specs.declared.Counts.{Counts}
use Rattle.format.specs.Encoding.{sizes}
use Rattle.join_parts.specs.Joining.{beyond, many_counts, many_ops}
use Rattle.join_parts.proofs.Laws.{FewOps, within}
use Rattle.join.specs.Promises.{Beyond, many_arcs, many_operations, many_registers, many_states}

module _ (x : Automaton) where
  abbrev c : Counts
  c = sizes x

  beyond-limits : T (beyond x) → Beyond x
  unfolding beyond
  beyond-limits t = ⊎_elim counts operations ((or_iff (many_counts c) (any many_ops x.arcs)).0 t)
    where
      counts : T (many_counts c) → Beyond x
      counts t =
          ⊎_elim
          (λ p. ⊎_elim (λ q. many_states (ltb→lt _ _ q)) (λ q. many_registers (ltb→lt _ _ q)) ((or_iff (ltb 256 c.states) (ltb 8 c.registers)).0 p))
          (λ q. many_arcs (ltb→lt _ _ q))
          ((or_iff (ltb 256 c.states || ltb 8 c.registers) (ltb 2048 c.arcs)).0 t)

      operations : T (any many_ops x.arcs) → Beyond x
      operations t = let q = (any-iff many_ops x.arcs).0 t in many_operations q.0 q.1 (ltb→lt _ _ q.2)

  within-limits : beyond x ≡ false → ¬ Beyond x
  within-limits e (many_states h) = omega (arith, (within x e).0.states)
  within-limits e (many_registers h) = omega (arith, (within x e).0.registers)
  within-limits e (many_arcs h) = omega (arith, (within x e).0.arcs)
  within-limits e (many_operations a m h) = omega (arith, each-mem FewOps (within x e).1 m)

  pub beyond-iff : T (beyond x) ↔ Beyond x
  beyond-iff = (beyond-limits, back (beyond x) refl)
    where
      back : (b : Bool) → beyond x ≡ b → Beyond x → T b
      back true e h = tt
      back false e h = absurd (within-limits e h)

  pub not_beyond : ¬ Beyond x → beyond x ≡ false
  not_beyond h = go (beyond x) refl
    where
      go : (b : Bool) → beyond x ≡ b → b ≡ false
      go true e = absurd (h (beyond-limits (rw e tt)))
      go false e = refl
