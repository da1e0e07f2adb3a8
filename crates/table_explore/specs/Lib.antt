pub mod Explores
