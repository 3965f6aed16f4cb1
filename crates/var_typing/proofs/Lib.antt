mod DeclarationLemmas
mod FoldLemmas
mod HeaderLemmas
mod Members
mod PositionLemmas
mod ProfileDeclarations
mod ProfileHeader
mod ProfileScope
mod ProfileTerms
pub mod ProfileTheorem
mod TermLemmas
mod TypedLemmas
mod WalkLemmas
mod TypingExamples
