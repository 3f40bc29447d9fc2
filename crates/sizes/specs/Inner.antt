pub mod Binomial
