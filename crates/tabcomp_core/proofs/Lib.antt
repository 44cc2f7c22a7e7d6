mod CutLemmas
mod CutAgain
mod JoinLemmas
mod TextLemmas
mod DivideLemmas
mod DividingRows
mod StartLemmas
mod PlainRoot
mod ToldRuns
mod StoppedRuns
mod TablesTold
mod ReadWithin
mod ChildrenTexts
mod RootText
mod AgainLemmas
pub mod Rows
pub mod FaultLemmas
