pub mod Lengths
pub mod Layouts
pub mod Reading
pub mod Allowed
