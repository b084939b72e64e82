-- What belongs to no one function: the machine's numbers and tests, the sentence on the distance, and the facts that other crates use.
pub mod Machine
pub mod Signed
pub mod TheOne
pub mod Distances
