-- What the proofs of `record` share, the laws of a well-formed record, and laws on lists and choices that the crates above share too.
pub mod Choices
pub mod Searching
pub mod Stored
pub mod Profile
pub mod Unread
pub mod Formed
