pub mod WrittenBytes
