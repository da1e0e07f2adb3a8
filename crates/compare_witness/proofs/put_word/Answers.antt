use Rattle.compare_witness.proofs.PutWord.{Putting, Putting-start, Putting-more, Putting-end}
use lib.ListN.{get_or, length, set}
use Prim.Native.Nat.{◌-◌, ◌/◌, ◌%◌, ◌≤◌, ◌<◌}
use native.Mathlib.Omega.{arith}
use Rattle.compare_witness.proofs.put_word.Goals as goal
use Rattle.compare_witness.proofs.put_word.Goals.{After-get16-p, At-loop-k}

room : (o : goal.At-loop-k) → o.word_length-len.result ≤ length o.loop-k.out
room o = omega (arith, o.loop-k.invariant.same, o.word_length-len.ensures.1, o.requires.climb.low, o.requires.climb.most, o.requires.a_in_bounds.1)

up : (c : goal.After-get16-p) → (0 < c.loop-k.j) × (c.get16-p.result / 64 < c.loop-k.k) × (c.get16-p.result % 64 < c.args.a) × Putting c.args.t c.args.w.now c.args.letters.now c.args.out.now c.args.from c.word_length-len.result (set c.loop-k.out (c.loop-k.j - 1) (get_or c.args.letters.now (c.get16-p.result % 64) 0)) (c.get16-p.result / 64) (c.loop-k.j - 1)
up c = let room' : c.word_length-len.result ≤ length c.loop-k.out = omega (arith, c.loop-k.invariant.same, c.word_length-len.ensures.1, c.requires.climb.low, c.requires.climb.most, c.requires.a_in_bounds.1) in
    Putting-more c.args.t c.args.w.now c.args.a c.args.n c.requires.climb.tree c.args.letters.now c.args.out.now c.args.from c.word_length-len.result c.loop-k.out c.loop-k.k c.loop-k.j c.get16-p.result c.get16-p.ensures.0
    (omega (arith, c.loop-k-test.true)) (omega (arith, c.requires.climb.low, c.loop-k.invariant.low)) (room') c.loop-k.invariant

pub word_length-len-requires : goal.word_length-len-requires
word_length-len-requires c = c.requires.climb

pub loop-k-init : goal.loop-k-init
loop-k-init c = Putting-start c.args.t c.args.w.now c.args.letters.now c.args.out.now c.args.from c.word_length-len.result c.word_length-len.ensures.0

pub get16-p-requires : goal.get16-p-requires
get16-p-requires c = omega (arith, c.requires.climb.long, c.requires.climb.most, c.requires.climb.low, c.loop-k.invariant.low)

pub overflow_sub-place : goal.overflow_sub-place
overflow_sub-place c = let s = up c in omega (arith, s.0, c.loop-k.invariant.less)

pub bounds-letters-p : goal.bounds-letters-p
bounds-letters-p c = let s = up (goal.at.bounds-letters-p c).After-get16-p in
    omega (arith, s.2, c.requires.a_in_bounds.0)

pub bounds-out-place : goal.bounds-out-place
bounds-out-place c = let s = up (goal.at.bounds-out-place c).After-get16-p in
    omega (arith, s.0, room (goal.at.bounds-out-place c).At-loop-k, c.loop-k.invariant.less)

pub overflow_sub-j : goal.overflow_sub-j
overflow_sub-j c = let s = up (goal.at.overflow_sub-j c).After-get16-p in omega (arith, s.0)

pub loop-k-smaller : goal.loop-k-smaller
loop-k-smaller c = let s = up (goal.at.loop-k-smaller c).After-get16-p in omega (arith, s.1)

pub loop-k-preserved : goal.loop-k-preserved
loop-k-preserved c = (up (goal.at.loop-k-preserved c).After-get16-p).3

pub shape_of-out : goal.shape_of-out
shape_of-out c = c.loop-k.invariant.same

pub returns : goal.returns
returns c = record { long = c.word_length-len.ensures.0; put = Putting-end c.args.t c.args.w.now c.args.letters.now c.args.out.now c.args.from c.word_length-len.result c.loop-k.out c.loop-k.k c.loop-k.j c.loop-k-test.false c.loop-k.invariant }
