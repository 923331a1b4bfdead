-- What the contracts cite.
pub mod Text
pub mod Files
pub mod Outcome
