pub mod Marks
pub mod Marking
pub mod Vacant
