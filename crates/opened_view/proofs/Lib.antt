pub mod AnswerCases
pub mod AnswerLemmas
pub mod LimitLemmas
pub mod MaintainLemmas
pub mod ViewLemmas
