pub mod PruneOne
pub mod PruneAll
