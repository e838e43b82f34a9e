pub mod Answering
pub mod ScriptTexts
pub mod Serving
pub mod ToldRuns
