-- What the proofs of `gap` share, and the laws of a gap.
pub mod Leaves
pub mod Moves
pub mod Stays
pub mod Range
