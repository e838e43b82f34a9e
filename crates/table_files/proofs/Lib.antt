pub mod PutFiles
