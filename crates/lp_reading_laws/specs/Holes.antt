pub mod LineTests
pub mod Parted
pub mod Found
pub mod Inlined
pub mod Laws
