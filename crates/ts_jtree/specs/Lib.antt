-- The definitions of JSON elements: numbers, attributes, elements, how they are written, and their faults.
pub mod Faults
pub mod Numbers
pub mod Attributes
pub mod Elements
pub mod Shown
