pub mod FrontLemmas
pub mod LayoutLemmas
pub mod CommandLemmas
pub mod CommandPartLemmas
pub mod WrapperLemmas
pub mod HeaderLemmas
pub mod FieldLemmas
pub mod FrameLemmas
pub mod DemoLemmas
pub mod LawLemmas
pub mod FooterLemmas
pub mod DoomLemmas
mod WorkedCases
