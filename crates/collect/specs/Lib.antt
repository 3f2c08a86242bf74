pub mod Dialogue
pub mod Answering
