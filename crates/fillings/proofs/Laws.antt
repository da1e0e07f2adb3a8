-- Laws: the laws of this crate that crates above cite. A law that is not named here may change.
-- places have a filling where no low is above its high
pub use Rattle.fillings.proofs.FillingLaws.{fillable}
-- of an automaton: there are more than P live sets behind one of the places just if its fillings have more (refusal 23); a set behind all places is
-- accepted, or is not, just if a filling is
pub use Rattle.fillings.proofs.FilledSets.{filling_accepted, filling_many, filling_rejected, set-accepts}
-- the states behind one place, met turn by turn: the turn of each state before it, and that no turn makes what is met shorter
pub use Rattle.fillings.proofs.PlaceTurns.{flat_at, flat_length, place-start}
