pub mod BookLines
pub mod BookPlace
pub mod SolveError
