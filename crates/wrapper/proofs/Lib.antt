-- What the proofs of `wrapper` share, and the laws of a step.
pub mod Holding
pub mod Releasing
pub mod Stepping
pub mod ReleaseIsDone
pub mod InTurn
pub mod Stays
