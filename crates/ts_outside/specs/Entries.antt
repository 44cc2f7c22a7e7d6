-- The entries that a desk gains, or none where there is nothing to open or to write. This project's own rule.
use Rattle.std.specs.Prelude.{ℕ, List, [], ◌∷◌, Bool, Option, None, Some}
use Rattle.ts_outside.specs.declared.requests.Asked.{Asked}
use Rattle.ts_outside.specs.declared.requests.Purpose.{Purpose}
use Rattle.ts_outside.specs.declared.closed_inputs.ClosedInput.{ClosedInput}
use Rattle.ts_outside.specs.Told.{grown}

-- a request to open, unless there is nothing to open
abbrev pub asked_for : Purpose → Option (List ℕ) → Bool → List Asked
asked_for purpose None ok = []
asked_for purpose (Some name) ok = record { purpose = purpose; name = name; ok = ok } ∷ []

-- the closed outputs with one more, unless packets are dropped
abbrev pub outputs_with : Option (List ℕ) → Option (List (List ℕ × List ℕ)) → List ℕ
    → Option (List (List ℕ × List ℕ))
outputs_with None outputs bytes = outputs
outputs_with (Some name) outputs bytes = grown outputs ((name, bytes) ∷ [])

-- the closed inputs with one more: its bytes are known where the files are, and where they are not the closed inputs
-- are no longer known
abbrev pub closed_with : Option (List (List ℕ × List ℕ)) → Option (List ClosedInput)
    → ClosedInput → Option (List ClosedInput)
closed_with None closed entry = None
closed_with (Some files) closed entry = grown closed (entry ∷ [])
