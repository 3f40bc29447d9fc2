pub mod RepresentativeCall
