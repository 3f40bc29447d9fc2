pub mod Bytes
pub mod Assembled
pub mod OnSets
pub mod RingTable
