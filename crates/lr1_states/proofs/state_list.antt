pub mod Kept
pub mod Flat
pub mod Kernels
pub mod Holds
