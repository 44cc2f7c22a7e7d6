-- The definitions of the pages by which JSON shows descriptors.
pub mod ShownPages
pub mod Extensions
pub mod Pages
