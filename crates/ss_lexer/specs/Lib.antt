pub mod Spelling
pub mod Tokens
pub mod Sound
pub mod Lexemes
