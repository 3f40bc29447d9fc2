pub mod AnyOrder
pub mod Choice
pub mod FirstGreatest
pub mod MoveEntries
pub mod QuickestWin
pub mod Running
pub mod Worths
