pub mod PairLaws
pub mod LetteredLaws
pub mod Laws
