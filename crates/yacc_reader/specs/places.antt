-- What the contracts cite.
pub mod Placed
