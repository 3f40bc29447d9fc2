pub mod Probes
pub mod Conditions
