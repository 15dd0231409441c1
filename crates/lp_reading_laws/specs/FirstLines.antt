pub mod Opens
pub mod Signs
pub mod ApartTests
pub mod Behind
pub mod EndTests
pub mod Laws
