mod WorkedRows
pub mod CountLemmas
pub mod EvalLemmas
pub mod MemberLemmas
pub mod OrderLemmas
