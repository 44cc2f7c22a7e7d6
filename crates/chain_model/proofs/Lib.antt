pub mod PrefixLemmas
pub mod ApplyLaws
pub mod PositionLaws
pub mod AgreementLaws
pub mod GreatestLaws
pub mod JointLaws
pub mod Rows
