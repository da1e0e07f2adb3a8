pub mod JointArcs
