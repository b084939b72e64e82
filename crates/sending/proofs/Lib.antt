-- What the proofs of `sending` share, and the laws of what is sent.
pub mod Lengths
pub mod Silent
pub mod Puts
pub mod Messages
