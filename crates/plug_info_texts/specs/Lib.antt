-- The definitions of `plug_info_texts`: the names and texts of `info`.
pub mod EitTexts
pub mod InfoJson
pub mod InfoNames
pub mod InfoTexts
pub mod Marks
pub mod NameRows
pub mod NamedTexts
pub mod PlainTexts
pub mod Rounding
