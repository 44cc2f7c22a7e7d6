mod ByteLemmas
mod TypedLemmas
mod LawLemmas
