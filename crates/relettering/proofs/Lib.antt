pub mod JoinedLetters
pub mod RelettersWords
pub mod RelettersTables
pub mod RelettersForms
pub mod Laws
