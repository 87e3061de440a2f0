pub mod Solver
pub mod Part
pub mod Outcome
pub mod Threads
pub mod Runs
pub mod RunFault
