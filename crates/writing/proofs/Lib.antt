-- What the proofs of `writing` share, and the theorems on its refusals.
pub mod Runs
pub mod Forms
pub mod Answers
pub mod Refused
