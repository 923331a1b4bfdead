-- What the contracts cite.
pub mod Ids
pub mod Props
pub mod Table
pub mod Words
