-- The search for a closed output. This project's own rule.
use Rattle.std.specs.Prelude.{ℕ, List}
use Rattle.ts_outside.specs.declared.closed_outputs.Found.{Found}
use Rattle.ts_outside.specs.declared.closed_outputs.Found.TheVariants.{Output, Past}

-- a fact for each result: the output with its name and its bytes, or by how much the number is past the last one
abbrev pub MatchFound : Found → (List ℕ → List ℕ → Type 0) → (ℕ → Type 0) → Type 0
MatchFound (Output name bytes) P Q = P name.now bytes.now
MatchFound (Past n) P Q = Q n
