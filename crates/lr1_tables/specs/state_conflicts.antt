pub mod Clashes
pub mod Reductions
pub mod Clashed
