pub mod canonical
