-- The definitions of tables of transport streams, and of the items of services in them.
pub mod ServiceItems
pub mod StreamTables
