pub mod LetterListLaws
pub mod PlaceLaws
pub mod FillLaws
pub mod JoinLaws
pub mod JoinedAscends
pub mod Laws
