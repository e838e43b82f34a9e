mod TableLemmas
mod NamedLemmas
