-- What the contracts cite.
pub mod Printed
