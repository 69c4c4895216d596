-- What a reader must believe of lent references.
pub mod Moments
