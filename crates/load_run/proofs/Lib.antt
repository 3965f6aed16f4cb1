mod GeneratorLemmas
mod StartLemmas
mod TableLemmas
mod RunLemmas
mod ProfileLemmas
mod ShelfLemmas
