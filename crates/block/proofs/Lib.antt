-- What the proofs of `block` share and the laws on its definitions.
pub mod OnePdu
pub mod Pass
pub mod Sound
pub mod Along
pub mod Fuel
pub mod Inside
pub mod InTurn
pub mod Together
