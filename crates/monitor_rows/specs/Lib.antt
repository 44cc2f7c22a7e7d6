-- The definitions of rows of keys that tables ask for.
pub mod KeyRows
pub mod RowStands
