pub mod Profile
pub mod Reasons
pub mod Legal
pub mod Places
pub mod WellFormed
pub mod With
pub mod Searches
