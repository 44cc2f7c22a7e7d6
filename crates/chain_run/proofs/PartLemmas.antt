-- Plugins on their way back from the stages of a chain.
use Rattle.std.proofs.Common.{◌≡◌, ◌+◌, ◌<◌, ◌≤◌, List, [], ◌∷◌, ◌++◌, length, take, drop, sym, arith}
use Rattle.std.specs.Prelude.{slice_index_or}
use Rattle.stage_run.specs.Seeing.{Seeing}
use Rattle.stage_run.specs.declared.stage_part.StagePart.{StagePart}
use Rattle.chain_run.specs.Parts.{AreTakenFrom, ArePluginsAndOutput, AreStages}

-- a list whose first member was taken away
pub first-taken : {X : Type 0} (xs rest : List X) (x : X) → 0 < length xs → x ≡ slice_index_or xs 0 x → rest ≡ take 0 xs ++ drop (0 + 1) xs → xs ≡ x ∷ rest
first-taken [] rest x some is are = absurd (omega arith)
first-taken (y ∷ xs) rest x some is are = λ i. sym is i ∷ sym are i

-- a list of one
pub one-is : {X : Type 0} (xs : List X) (x : X) → length xs ≡ 1 → x ≡ slice_index_or xs 0 x → xs ≡ x ∷ []
one-is [] x one is = absurd (omega arith)
one-is (y ∷ []) x one is = λ i. sym is i ∷ []
one-is (y ∷ z ∷ xs) x one is = absurd (omega arith)

module _ {S K P : Type 0} (see : Seeing S K P) where
  -- where one stage is left, no plugin is
  pub none-taken : (parts : List (StagePart S K P)) → length parts ≤ 1 → ArePluginsAndOutput see parts → AreTakenFrom see parts []
  none-taken [] few are = absurd are
  none-taken (part ∷ []) few are = tt
  none-taken (part ∷ next ∷ parts) few are = absurd (omega arith)

  -- a chain has stages
  pub some-stages : (parts : List (StagePart S K P)) → AreStages see parts → 0 < length parts
  some-stages [] are = absurd are
  some-stages (part ∷ parts) are = omega arith
