pub mod Codes
pub mod Explanations
pub mod Kind
pub mod Laws
pub mod Sets
