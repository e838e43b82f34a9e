pub mod StopLemmas
mod KindLemmas
mod TrialLemmas
