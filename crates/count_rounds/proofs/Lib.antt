pub mod Slots
pub mod RoundLaws
pub mod EndLaws
