pub mod Fields
pub mod Writing
pub mod Fits
pub mod Allowed
