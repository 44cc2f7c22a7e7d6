-- The definitions of descriptors as JSON elements, and of reading them.
pub mod DescrElements
pub mod DescrReading
