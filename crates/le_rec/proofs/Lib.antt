pub mod BytesLemmas
pub mod FieldLemmas
pub mod LayoutLemmas
pub mod NameLemmas
pub mod NumberLemmas
pub mod TableLemmas
pub mod SourceLemmas
