pub mod Answering
pub mod Further
pub mod PrintedLines
pub mod ReadLines
pub mod NotedLines
pub mod SaidLines
