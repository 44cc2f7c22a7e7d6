-- The packets of an input that is a generated stream. This project's own rule.
use Rattle.std.specs.Prelude.{ℕ, zero, suc, ◌+◌, List, [], ◌∷◌}
use Rattle.chain_model.specs.declared.input_end.InputEnd.TheVariants.{End}
use Rattle.chain_model.specs.InputList.{InputList}
use Rattle.ts_testgen.specs.Generated.{generated}

-- so many packets of the generated stream of a seed, from a number on
abbrev pub generated_from : ℕ → ℕ → ℕ → List (List ℕ)
generated_from seed at zero = []
generated_from seed at (suc n) = generated seed at ∷ generated_from seed (at + 1) n

-- the first `n` packets of the generated stream of a seed, and a plain end after them
abbrev pub input_of_generated : ℕ → ℕ → InputList
input_of_generated seed n = record { packets = generated_from seed 0 n; ended = End 0 }
