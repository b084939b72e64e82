pub mod Joining
pub mod Checks
pub mod Replies
