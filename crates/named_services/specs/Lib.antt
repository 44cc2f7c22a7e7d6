-- The definitions of services that are named.
pub mod NamedServices
pub mod NamesStand
pub mod SdtInForce
pub mod SdtStands
pub mod ServiceLists
pub mod ServiceNames
pub mod ServiceWords
