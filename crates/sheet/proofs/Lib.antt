-- Fields: what is shown is read, and what is read was shown
pub mod Splitting
pub mod PartsFound
pub mod Codec
pub mod Numbers
pub mod HexPairs
pub mod Escapes
pub mod TextsAsTheyStand
-- Lines
pub mod Words
pub mod LinesRead
pub mod SheetsRead
-- The promises
pub mod Promises
pub mod FaultyLines
pub mod Refusals
pub mod SheetSize
-- The samples
pub mod Samples
-- The walk over a payload
pub mod SheetFound
