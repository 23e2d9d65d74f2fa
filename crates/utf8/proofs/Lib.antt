pub mod After
pub mod Alternatives
pub mod Bytes
pub mod ClassTable
pub mod Laws
pub mod Octets
pub mod PlainBytes
pub mod Table
