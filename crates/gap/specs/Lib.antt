pub mod Standoff
pub mod Range
pub mod Elapsed
