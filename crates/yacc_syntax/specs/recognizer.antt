-- What the contracts cite.
pub mod Accepted
