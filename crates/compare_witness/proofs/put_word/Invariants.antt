-- `compare_witness::put_word` meets its contract. The loop's invariant is `Putting`: the word of row k and then what is put make up the whole.
use Rattle.compare_witness.proofs.PutWord.{Putting}
use Rattle.compare_witness.proofs.put_word.Given as goal

abbrev pub invariant-loop-k : goal.invariant-loop-k
invariant-loop-k l = Putting l.t l.w l.letters l.initial.out l.from l.len l.out l.k l.j

abbrev pub decreases-loop-k : goal.decreases-loop-k
decreases-loop-k l = l.k
