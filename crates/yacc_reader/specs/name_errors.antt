-- What the contracts cite.
pub mod Fault
pub mod Parts
