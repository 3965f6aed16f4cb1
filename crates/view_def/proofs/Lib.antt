mod PrintExamples
mod PrintLemmas
