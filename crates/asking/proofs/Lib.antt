-- What the proofs of `asking` share, and its law.
pub mod Wrappers
pub mod Steps
