pub mod Number
pub mod Specials
pub mod SectorSpecials
pub mod Kinds
pub mod Laws
