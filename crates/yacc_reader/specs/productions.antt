-- What the contracts cite.
pub mod Readable
pub mod Turn
