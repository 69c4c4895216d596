-- Laws: numbers and keys as bytes, there and back. Lawful: what the other laws need of a layout, and document 01's layout. Stores: one run of stores after
-- another. Ranges: a list of ranges as bytes. Entries: a map and its entries. Forms: a map and its form, there and back, what the reader accepts, and no two
-- maps with one form. Unique: one outcome. Cases: small forms by computation.
pub mod Laws
pub mod Lawful
pub mod Stores
pub mod Ranges
pub mod Entries
pub mod Forms
pub mod Unique
pub mod Cases
