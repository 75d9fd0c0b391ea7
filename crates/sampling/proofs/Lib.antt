pub mod TableWords
pub mod WordTurns
