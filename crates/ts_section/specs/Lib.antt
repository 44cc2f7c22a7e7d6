-- The definitions of sections, their fields, their CRC, and runs of sections.
pub mod Crc
pub mod SectionFields
pub mod ValidSection
pub mod FirstBroken
pub mod WrittenSection
pub mod SectionRun
