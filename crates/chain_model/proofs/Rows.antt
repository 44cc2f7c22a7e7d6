-- Worked rows, computed on the definitions. Packets have one byte here.
use Rattle.std.proofs.Common.{false, ◌≡◌, ℕ, List, [], ◌∷◌, length, replicate, Some, None, refl}
use Rattle.std.specs.Prelude.{nat_le, ◌==◌, if◌then◌else◌}
use Rattle.ts_packet.specs.Cells.{Live, Dropped}
use Rattle.ts_packet.specs.Labels.{no_labels}
use Rattle.chain_model.specs.declared.cause.Cause.TheVariants.{Input, Joint, Until, Stop, Refuse}
use Rattle.chain_model.specs.declared.input_end.InputEnd.TheVariants.{End}
use Rattle.chain_model.specs.declared.reason.Reason.TheVariants.{Pid}
use Rattle.chain_model.specs.PluginRule.{PluginRule, RuleOutcome, passes, drops, lasts, stops, refuses}
use Rattle.chain_model.specs.Apply.{input_over, StageList}
use Rattle.chain_model.specs.StageLists.{end_list}
use Rattle.chain_model.specs.Joint.{agreement_of, joint_position}
use Rattle.chain_model.specs.Cut.{cut_of, cause_of}
use Rattle.chain_model.specs.Stuffed.{stuffed}

-- a rule that gives this outcome after so many cells, passes before, and agrees after so many others
abbrev rule_at : ℕ → (List ℕ → RuleOutcome) → ℕ → PluginRule
rule_at n action agreed = record {
  outcome_of = λ history packet labels. if length history == n then action packet else passes packet;
  labels_of = λ history packet labels. labels;
  lines_of = λ history packet labels. [];
  summary_of = λ history. [];
  agrees = λ history. nat_le agreed (length history);
  has_fault = λ history. false;
}

abbrev agrees_at : ℕ → PluginRule
agrees_at n = rule_at 100 passes n

abbrev lasts_at : ℕ → PluginRule
lasts_at n = rule_at n lasts 100

abbrev stops_at : ℕ → PluginRule
stops_at n = rule_at n (λ packet. stops) 100

abbrev refuses_at : ℕ → PluginRule
refuses_at n = rule_at n (λ packet. refuses (Pid 33)) 100

abbrev drops_at : ℕ → PluginRule
drops_at n = rule_at n (λ packet. drops) 100

abbrev packet : List ℕ
packet = 1 ∷ []

-- an input of so many packets
abbrev input : ℕ → StageList
input n = record { cells = replicate n (Live packet no_labels); ended = Some (input_over (End 0)) }

-- agreed at 5 and at 3: the greater one counts
greatest-cut : cut_of (agrees_at 5 ∷ agrees_at 3 ∷ []) (input 8) (1 ∷ 2 ∷ []) ≡ 5
greatest-cut = refl

greatest-cause : cause_of (agrees_at 5 ∷ agrees_at 3 ∷ []) (input 8) (1 ∷ 2 ∷ []) ≡ Joint
greatest-cause = refl

-- joint termination ignored: there are no users
ignored-cut : cut_of (agrees_at 5 ∷ agrees_at 3 ∷ []) (input 8) [] ≡ 8
ignored-cut = refl

ignored-cause : cause_of (agrees_at 5 ∷ agrees_at 3 ∷ []) (input 8) [] ≡ Input (End 0)
ignored-cause = refl

-- one of the users never agrees
never-joint : joint_position (agrees_at 5 ∷ agrees_at 9 ∷ []) (input 8) (1 ∷ 2 ∷ []) ≡ None
never-joint = refl

never-cut : cut_of (agrees_at 5 ∷ agrees_at 9 ∷ []) (input 8) (1 ∷ 2 ∷ []) ≡ 8
never-cut = refl

-- an agreement at the end of the list that is met still counts, one after it does not
agreed-at_end : agreement_of (agrees_at 8) (input 8).cells ≡ Some 8
agreed-at_end = refl

-- a last packet at the cut: joint termination comes first
last-and_joint : cause_of (lasts_at 4 ∷ agrees_at 5 ∷ []) (input 8) (2 ∷ []) ≡ Joint
last-and_joint = refl

last-alone : cause_of (lasts_at 4 ∷ agrees_at 5 ∷ []) (input 8) [] ≡ Until 1
last-alone = refl

last-cut : cut_of (lasts_at 4 ∷ agrees_at 5 ∷ []) (input 8) [] ≡ 5
last-cut = refl

-- of two last packets at the cut the one of the first plugin is named, also where the input ends there
two-lasts : cause_of (lasts_at 4 ∷ lasts_at 4 ∷ []) (input 5) [] ≡ Until 1
two-lasts = refl

-- a stop or a refusal before the same packet
stopped-cut : cut_of (stops_at 4 ∷ agrees_at 5 ∷ []) (input 8) (2 ∷ []) ≡ 4
stopped-cut = refl

stopped-cause : cause_of (stops_at 4 ∷ agrees_at 5 ∷ []) (input 8) (2 ∷ []) ≡ Stop 1
stopped-cause = refl

refused-cause : cause_of (agrees_at 5 ∷ refuses_at 4 ∷ []) (input 8) (1 ∷ []) ≡ Refuse 2 (Pid 33)
refused-cause = refl

-- a dropped cell keeps its place: agreements count places and not live packets
dropped-list : (end_list (drops_at 1 ∷ []) (input 3)).cells ≡ Live packet no_labels ∷ Dropped ∷ Live packet no_labels ∷ []
dropped-list = refl

dropped-joint : joint_position (drops_at 1 ∷ agrees_at 3 ∷ []) (input 8) (2 ∷ []) ≡ Some 3
dropped-joint = refl

-- stop nulls come after the input's end, and so after the joint cut: they do not count
nulls-cells : length (stuffed (record { start = 0; stop = 4; null = 0; every = 1 }) (record { packets = replicate 3 packet; ended = End 0 })).cells ≡ 7
nulls-cells = refl

nulls-cut : cut_of (agrees_at 2 ∷ []) (stuffed (record { start = 0; stop = 4; null = 0; every = 1 }) (record { packets = replicate 3 packet; ended = End 0 })) (1 ∷ []) ≡ 2
nulls-cut = refl

nulls-joint : cause_of (agrees_at 2 ∷ []) (stuffed (record { start = 0; stop = 4; null = 0; every = 1 }) (record { packets = replicate 3 packet; ended = End 0 })) (1 ∷ []) ≡ Joint
nulls-joint = refl
