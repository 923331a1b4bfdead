pub mod Numbered
pub mod Listed
pub mod Reported
pub mod Marked
pub mod Accuracy
pub mod Classified
