pub mod WordTurns
pub mod Rows
