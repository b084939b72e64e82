pub mod Apart
pub mod Refused
