-- The lemmas of `plug_info_state`.
pub mod CatLemmas
pub mod CountLemmas
pub mod EitLemmas
pub mod ExtentLemmas
pub mod NitLemmas
pub mod SpanLemmas
pub mod SdtLemmas
pub mod TrackLemmas
mod Rows
