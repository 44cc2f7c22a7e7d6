-- The definitions of `plug_info_state`: what `info` follows of the cells that count, and what it keeps of it.
pub mod BatStands
pub mod BatsInForce
pub mod CatStands
pub mod ClockSpans
pub mod EitSections
pub mod EitStands
pub mod ExtentKept
pub mod NitInForce
pub mod NitStands
pub mod OtherStands
pub mod PacketExtent
pub mod PcrRate
pub mod PidCounts
pub mod SdtStands
pub mod CountsOf
pub mod Tracked
