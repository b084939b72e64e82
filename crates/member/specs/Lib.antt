pub mod Sizes
pub mod Messages
pub mod Elapsing
pub mod Leaving
