-- What the proofs of `octets` share: laws of numbers as octets, and of writes.
pub mod Numbers
pub mod Writes
