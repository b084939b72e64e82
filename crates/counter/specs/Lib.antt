pub mod Distance
pub mod Steps
