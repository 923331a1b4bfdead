pub mod Passing
pub mod Calling
pub mod Reading
pub mod Handing
pub mod Turning
