pub mod Own
pub mod Records
pub mod Sketch
pub mod Numbers
