pub mod Envelope
