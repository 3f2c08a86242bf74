pub mod Transcripts
pub mod Printing
pub mod Holding
