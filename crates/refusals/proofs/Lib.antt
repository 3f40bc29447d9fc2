pub mod FirstRefusal
pub mod EditionConditions
pub mod Conditions
pub mod ReachableConditions
pub mod FrameConditions
pub mod TablebaseConditions
