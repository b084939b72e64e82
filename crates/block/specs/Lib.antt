pub mod Pdu
pub mod Block
pub mod Cursor
pub mod Inside
pub mod Written
pub mod Allowed
