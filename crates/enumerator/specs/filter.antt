pub mod Filter
pub mod Given
pub mod Found
