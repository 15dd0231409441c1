pub mod InMemory
pub mod BackEndLaw
