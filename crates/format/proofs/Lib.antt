-- Reading, by its tests
pub mod SectionTests
pub mod FrameLaws
pub mod EntryLaws
pub mod PairLaws
pub mod SectionLaws
pub mod EarlyFaults
pub mod Answers
-- Rows of an accepted payload
pub mod RowCount
pub mod RowsPlaced
pub mod Walking
pub mod WalkLaws
pub mod Storing
-- Encoding and output
pub mod Encoding
pub mod EncodedBytes
pub mod Output
-- What stands at a place: from reading to bytes, and from bytes to reading
pub mod TextsOk
pub mod Stands
pub mod EntryBytes
pub mod PairBytes
pub mod PlacedRows
pub mod Runs
pub mod Items
pub mod SectionBytes
pub mod SectionFields
pub mod BodiesStand
pub mod BodiesRead
pub mod PayloadStands
pub mod PayloadRead
-- What rows say
pub mod RowsByTag
pub mod RecordsByTag
pub mod RowRules
pub mod RowsSay
pub mod RowsStand
pub mod Encoded
-- The promises
pub mod RowsInOrder
pub mod Promises
pub mod RoundTrips
pub mod Records
pub mod RecordsOk
pub mod SaidSections
pub mod Renaming
-- The walk over sections
pub mod SectionsFound
-- The public copy, and what a holder of it can learn
pub mod FactsOf
pub mod PublicRows
pub mod FactsFound
pub mod PublicSections
pub mod Secrecy
pub mod Card
pub mod RefusedCalls
-- The listing and the public copy, by walks
pub mod DecimalLaws
pub mod LinesFound
pub mod PrintLaws
pub mod CopyFound
pub mod CardFound
pub mod Measured
pub mod Samples
