pub mod After
pub mod Numbers
