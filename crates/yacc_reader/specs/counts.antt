-- What the contracts cite.
pub mod Counted
