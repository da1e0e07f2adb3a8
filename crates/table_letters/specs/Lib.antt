pub mod Lettered
