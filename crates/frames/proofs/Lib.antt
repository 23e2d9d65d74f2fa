pub mod Closed
pub mod EntryClosed
pub mod PayloadClosed
