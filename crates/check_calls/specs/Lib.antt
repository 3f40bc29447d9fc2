pub mod CheckCall
