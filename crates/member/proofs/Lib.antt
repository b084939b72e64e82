-- What the proofs of `member` share.
pub mod Lent
pub mod Lists
pub mod Joins
pub mod Wrapping
pub mod Messaging
pub mod Passing
pub mod Departing
