-- What the contracts cite.
pub mod Text
pub mod Bytes
