-- The definition of bits and fields in rows of bytes.
pub mod BitRow
