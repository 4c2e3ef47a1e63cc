mod BrokenLemmas
pub mod CaseLevels
pub mod EscapeLemmas
mod ExplainLemmas
pub mod HandingLemmas
pub mod JsonLemmas
mod LabelLemmas
pub mod MemberLemmas
pub mod OwnersLemmas
pub mod PartsLemmas
pub mod PathLemmas
pub mod ReadBackLemmas
pub mod ValueLemmas
mod WorkedCases
pub mod WritingLemmas
