pub mod TableFrames
pub mod MeetRow
pub mod NextLetters
pub mod MetAllLaws
mod MeetAll
pub mod Walking
pub mod Laws
