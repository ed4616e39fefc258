pub mod Answers
pub mod Forms
pub mod Grammar
pub mod Lines
pub mod LoadClients
pub mod Numbers
pub mod Words
