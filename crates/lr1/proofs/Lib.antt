pub mod Entered
pub mod Graphs
pub mod Textbook
pub mod Joining
