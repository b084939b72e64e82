-- What the proofs of `joining` share, and the laws of joining.
pub mod Depends
pub mod Made
