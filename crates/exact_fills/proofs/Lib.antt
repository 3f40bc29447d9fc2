pub mod ExactEntries
