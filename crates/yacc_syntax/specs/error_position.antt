-- What the contracts cite.
pub mod Stray
pub mod Automaton
pub mod Numbers
