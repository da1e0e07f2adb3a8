pub mod CountLines
