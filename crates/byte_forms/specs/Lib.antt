pub mod Reading
pub mod Forms
pub mod FormLaws
