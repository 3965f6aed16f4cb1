pub mod FillLemmas
mod StepLemmas
