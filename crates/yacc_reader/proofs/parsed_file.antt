pub mod Computes
pub mod Known
pub mod Said
pub mod Ids
pub mod Fits
pub mod Read
