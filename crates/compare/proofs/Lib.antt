pub mod Verdicts
pub mod DecidingLaws
pub mod Refusals
pub mod OverLaws
pub mod LoadingLaws
