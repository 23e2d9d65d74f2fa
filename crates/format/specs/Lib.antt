-- Layout: what a payload says, and its bytes
pub mod Sections
pub mod Encoding
pub mod WellFormed
-- Rows: what they may hold, and what they say
pub mod Rules
pub mod Resolve
pub mod Records
pub mod Said
-- The jobs and their refusals: reading, writing, listing
pub mod Parse
pub mod Read
pub mod Output
pub mod Write
pub mod Display
pub mod Listing
pub mod Print
-- Public copy
pub mod PublicCopy
pub mod PublicFacts
-- Sample payloads
pub mod Samples
-- What follows from the definitions
pub mod Promises
pub mod RoundTrips
pub mod Secrecy
pub mod Card
pub mod RefusedCalls
-- How a second pass goes over a payload
pub mod Walk
pub mod Lines
pub mod CopyWalk
pub mod CardWalk
