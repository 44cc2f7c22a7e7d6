-- Where a chain is cut, and why. This project's own rule.
use Rattle.std.specs.Prelude.{◌≡◌, ◌≢◌, ◌≤◌, ℕ, zero, suc, min, ◌==◌, List, [], ◌∷◌, ◌++◌, length, map, filter, find, Bool, true, false, IsTrue, if◌then◌else◌, Option, None, Some, unwrap_or}
use Rattle.std.specs.Option.{option_or}
use Rattle.std.specs.List.{last_or}
use Rattle.chain_model.specs.declared.cause.Cause.{Cause}
use Rattle.chain_model.specs.declared.cause.Cause.TheVariants.{Input, Joint, Until, Stop, Refuse, WriteFault, NoMemory}
use Rattle.chain_model.specs.declared.input_end.InputEnd.TheVariants.{ReadFault}
use Rattle.chain_model.specs.PluginRule.{PluginRule}
use Rattle.chain_model.specs.Apply.{OwnEnd, input_over, last_passed, stopped, refused, StageList}
use Rattle.chain_model.specs.StageLists.{stage_list, end_list}
use Rattle.chain_model.specs.Joint.{joint_position}

-- the lesser of the list's end and the joint position, where there is one
abbrev pub lesser_end : ℕ → Option ℕ → ℕ
lesser_end end None = end
lesser_end end (Some joint) = min end joint

-- how many cells of the chain's lists count: dropped ones have positions too
abbrev pub cut_of : List PluginRule → StageList → List ℕ → ℕ
cut_of rules input users =
    lesser_end (length (end_list rules input).cells) (joint_position rules input users)

-- the number is known and is `n`
abbrev pub is_at : Option ℕ → ℕ → Bool
is_at None n = false
is_at (Some m) n = m == n

-- where a stage ended its own list, and the cause that this gives
pub record Ending : Type 0 where
  pub at : ℕ
  pub cause : Cause

-- the cause that stage `k` gives by ending its own list so
abbrev pub cause_of_end : ℕ → OwnEnd → Cause
cause_of_end k (input_over how) = Input how
cause_of_end k last_passed = Until k
cause_of_end k stopped = Stop k
cause_of_end k (refused reason) = Refuse k reason

abbrev pub is_until : Cause → Bool
is_until (Until k) = true
is_until _ = false

-- the causes of the endings that are at the cut, in the order of the stages
abbrev pub causes_at : ℕ → List Ending → List Cause
causes_at cut endings = map (λ e. e.cause) (filter (λ e. e.at == cut) endings)

-- the one of the first plugin that passed its last packet, else that of the greatest stage
abbrev pub first_cause : List Cause → Option Cause
first_cause causes = option_or (find is_until causes) (last_or None causes)

-- joint termination comes first; where no ending is at the cut, it is the joint position
abbrev pub cause_among : ℕ → Option ℕ → List Ending → Cause
cause_among cut joint endings =
    if is_at joint cut then Joint else unwrap_or (first_cause (causes_at cut endings)) Joint

-- the ending of stage `k`, where it ended its own list
abbrev pub ending_of : ℕ → StageList → List Ending
ending_of k list = elim list.ended [ None ↦ [] | Some how ↦ record { at = length list.cells; cause = cause_of_end k how } ∷ [] ]

-- the endings of the stages up to `j`
abbrev pub endings_to : List PluginRule → StageList → ℕ → List Ending
endings_to rules input zero = ending_of zero input
endings_to rules input (suc j) = endings_to rules input j ++ ending_of (suc j) (stage_list rules input (suc j))

-- the endings of the input and of all plugins
abbrev pub endings_of : List PluginRule → StageList → List Ending
endings_of rules input = endings_to rules input (length rules)

-- why the chain ends at its cut
abbrev pub cause_of : List PluginRule → StageList → List ℕ → Cause
cause_of rules input users =
    cause_among (cut_of rules input users) (joint_position rules input users) (endings_of rules input)

-- the cut and the cause are those of the run without faults
abbrev pub IsPureClose : List PluginRule → StageList → List ℕ → ℕ → Cause → Type 0
IsPureClose rules input users cut cause =
    (cut ≡ cut_of rules input users) × (cause ≡ cause_of rules input users)

-- a cause that only a fault outside, or running out of memory, gives
abbrev pub is_fault : Cause → Bool
is_fault (Input ReadFault) = true
is_fault WriteFault = true
is_fault (NoMemory k) = true
is_fault _ = false

-- a fault may end the chain at `m`: not after the cut, and not where another cause comes before it
pub record IsValidFault (rules : List PluginRule) (input : StageList) (users : List ℕ) (m : ℕ) (cause : Cause) : Type 0 where
  pub fault : IsTrue (is_fault cause)
  pub within : m ≤ cut_of rules input users
  pub not_joint : joint_position rules input users ≢ Some m
  pub no_last : find is_until (causes_at m (endings_of rules input)) ≡ None
