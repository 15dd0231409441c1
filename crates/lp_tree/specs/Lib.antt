pub mod ProgramTree
