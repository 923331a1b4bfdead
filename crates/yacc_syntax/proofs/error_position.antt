pub mod Automaton
pub mod Live
pub mod Numbers
pub mod Places
pub mod Examples
