pub mod Emittable
pub mod Shapes
pub mod TextsFit
pub mod Laws
