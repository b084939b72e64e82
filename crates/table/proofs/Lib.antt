-- The laws of a table.
pub mod Finding
pub mod Formed
pub mod Tables
