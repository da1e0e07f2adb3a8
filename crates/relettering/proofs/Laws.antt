-- Laws: the laws of this crate that crates above cite. A law that is not named here may change.
-- the joined list: the first's bytes and those of the second that match none of them, so the letters of both, each once
pub use Rattle.relettering.proofs.JoinedLetters.{first-inside, inserted-long, joined-apart, joined-grows, joined-iff, joined-long, joined_same, second-inside}
-- over a longer list an automaton accepts the same words of bytes, and the same configurations are live behind them
pub use Rattle.relettering.proofs.RelettersWords.{Inside, new-inside, new-place, relettered-language, relettered-live}
-- it has the same configurations and final ones, and the same plain arcs but for their letters
pub use Rattle.relettering.proofs.RelettersTables.{configurations-same, finals-same, plain-many, plain-same, relettered_plain}
-- it is well-formed; which number a letter has; and where the list has its own letters place by place, its arcs are as they were
pub use Rattle.relettering.proofs.RelettersForms.{arc-unnumbered, new_apart, number-beyond, number-listed, relettered-formed, relettered-own}
