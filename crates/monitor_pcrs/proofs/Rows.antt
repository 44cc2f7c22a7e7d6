-- Worked rows of errors of steps between PCRs.
use Rattle.std.proofs.Common.{◌≡◌, [], ◌∷◌, map, None, Some, refl}
use Rattle.monitor_pcrs.specs.declared.pcr_error.PcrError.TheVariants.{Step, Accuracy}
use Rattle.monitor_pcrs.specs.PcrErrors.{step_error}

-- without a bit rate: 100 ms is no error, one unit more is, and so is a step of 0
steps_alone : map (step_error None 10) (1 ∷ 2700000 ∷ 2700001 ∷ 0 ∷ []) ≡ None ∷ None ∷ Some (Step 2700001) ∷ Some (Step 0) ∷ []
steps_alone = refl

-- ten packets at 300,800 bits per second take 1,350,000 units: 27 more or less are no error, 28 are, with 1,037 ns; a step that
-- is wrong by itself has no other error
steps_at_a_rate : map (step_error (Some 300800) 10) (1350000 ∷ 1350027 ∷ 1350028 ∷ 1349973 ∷ 1349972 ∷ 2700001 ∷ [])
    ≡ None ∷ None ∷ Some (Accuracy 1037) ∷ None ∷ Some (Accuracy 1037) ∷ Some (Step 2700001) ∷ []
steps_at_a_rate = refl
