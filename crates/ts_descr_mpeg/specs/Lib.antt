-- The definitions of the MPEG descriptors as values.
pub mod MpegFields
pub mod MpegDescrs
