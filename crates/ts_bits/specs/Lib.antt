-- The definitions of decimal digits, descriptors and loops of descriptors.
pub mod Decimal
pub mod TaggedBody
pub mod DescriptorLoop
