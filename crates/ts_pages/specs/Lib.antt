-- The definitions of the pages of all descriptors that have one here.
pub mod PageRows
pub mod MpegPages
pub mod DvbPages
pub mod DeliveryPages
pub mod Pages
