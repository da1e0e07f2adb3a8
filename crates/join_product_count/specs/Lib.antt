pub mod ProductArcs
