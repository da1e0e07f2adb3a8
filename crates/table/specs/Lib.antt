pub mod Finals
pub mod Built
pub mod Standing
pub mod Opening
pub mod Judging
pub mod Face
pub mod Membership
pub mod Promised
