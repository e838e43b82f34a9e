pub mod OpText
pub mod WordsText
pub mod Words
pub mod Scripts
pub mod Reading
