-- What a packet comes to.
-- This project's own rule.
use Rattle.std.specs.Prelude.{◌≡◌, ℕ, Bool, true, false, List}
use Rattle.chain_model.specs.declared.reason.Reason.TheVariants.{Pid}
use Rattle.plugin_trait.specs.declared.outcome.Outcome.{Outcome}
use Rattle.plugin_trait.specs.declared.outcome.Outcome.TheVariants.{Pass, Refuse}
use Rattle.plugin_trait.specs.Finding.{first_of}
use Rattle.plugin_trait.specs.declared.first_find.FirstFind.{FirstFind}
use Rattle.plug_rename.specs.RenameRule.{collides_with, is_there_with, made_of}
use Rattle.plug_rename.specs.declared.rename_conf.RenameConf.{RenameConf}
use Rattle.plug_rename.specs.declared.turn.Turn.{Turn}
use Rattle.plug_rename.specs.declared.turn.Turn.TheVariants.{Passes, Collides}

-- it is refused
abbrev pub is_refusal : Turn → Bool
is_refusal Passes = false
is_refusal Collides = true

-- what the plugin does then: PID 0 is refused
abbrev pub outcome_by : Turn → Outcome
outcome_by Passes = Pass
outcome_by Collides = Refuse (Pid 0)

-- the packet that is left in place of another, after the packets before
abbrev pub Tells : RenameConf → List (List ℕ) → List ℕ → List ℕ → Turn → Type 0
Tells conf before packet left Passes = (collides_with conf before packet ≡ false) × (left ≡ made_of conf before packet)
Tells conf before packet left Collides = (collides_with conf before packet ≡ true) × (left ≡ packet)

-- the first position at which the service was there, with this one if the packet passes
abbrev pub Notes : RenameConf → List (List ℕ) → List ℕ → ℕ → FirstFind → FirstFind → Turn → Type 0
Notes conf before packet at old new Passes = new.at ≡ first_of old.at at (is_there_with conf before packet)
Notes conf before packet at old new Collides = new ≡ old
