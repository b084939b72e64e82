pub mod Judge
pub mod Hold
pub mod Release
pub mod Settle
pub mod Taken
pub mod Since
pub mod InTurn
