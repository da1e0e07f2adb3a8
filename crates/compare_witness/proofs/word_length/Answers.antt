use Rattle.compare_witness.proofs.WordOfRow.{spelled-zero, spelled-length}
use Rattle.compare_witness.specs.Spelled.{spelled}
use mathlib.Core.List.{List}
use lib.ListN.{length}
use Prim.Native.Nat.{ℕ, ◌+◌, ◌/◌, ◌<◌}
use native.Mathlib.Omega.{arith}
use mathlib.Core.Path.{◌≡◌, sym, ap, ◌∙◌}
use Rattle.compare_witness.proofs.word_length.Goals as goal
use Rattle.compare_witness.proofs.word_length.Goals.{After-get16-k}

up : (c : goal.After-get16-k) → (c.get16-k.result / 64 < c.loop-k.k) × (length (spelled c.args.t c.args.w.now c.args.from c.loop-k.k) ≡ length (spelled c.args.t c.args.w.now c.args.from (c.get16-k.result / 64)) + 1)
up c = let pos : 0 < c.loop-k.k = omega (arith, c.loop-k-test.true) in
    let low : c.loop-k.k < c.args.n = omega (arith, c.requires.low, c.loop-k.invariant.0) in
    (omega (arith, c.get16-k.ensures.0, (c.requires.tree c.loop-k.k pos low).0), spelled-length c.args.t c.args.w.now c.args.a c.args.n c.requires.tree c.args.from c.loop-k.k pos low (omega (arith, c.loop-k.invariant.0)) ∙ ap (λ (x : ℕ). length (spelled c.args.t c.args.w.now c.args.from (x / 64)) + 1) (sym c.get16-k.ensures.0))

pub loop-k-init : goal.loop-k-init
loop-k-init c = (omega arith, omega arith)

pub get16-k-requires : goal.get16-k-requires
get16-k-requires c = omega (arith, c.requires.long, c.requires.most, c.requires.low, c.loop-k.invariant.0)

pub overflow_add-len : goal.overflow_add-len
overflow_add-len c = omega (arith, c.requires.most, c.requires.low, c.loop-k.invariant.0, c.loop-k-test.true)

pub loop-k-smaller : goal.loop-k-smaller
loop-k-smaller c = let s = up c in omega (arith, s.0)

pub loop-k-preserved : goal.loop-k-preserved
loop-k-preserved c = let s = up c in (omega (arith, s.0, c.loop-k.invariant.0), omega (arith, s.1, c.loop-k.invariant.1))

pub returns : goal.returns
returns c = (omega (arith, c.loop-k.invariant.1, ap (λ (k : ℕ). length (spelled c.args.t c.args.w.now c.args.from k)) c.loop-k-test.false, ap (λ (v : List ℕ). length v) (spelled-zero c.args.t c.args.w.now c.args.from)), omega (arith, c.loop-k.invariant.0))
