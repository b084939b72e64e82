pub mod Table
pub mod Lengths
pub mod Readable
pub mod Arms
pub mod Refused
