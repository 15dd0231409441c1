pub mod Reductions
pub mod Filters
pub mod VariantPlaces
pub mod NamedRows
pub mod ReferentRows
