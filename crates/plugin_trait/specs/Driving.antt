-- What a plugin made of a list of cells, in the words of what a rule makes of it. This project's own rule.
use Rattle.std.specs.Prelude.{◌≡◌, ℕ, ◌+◌, ◌-◌, nat_lt, if◌then◌else◌, List, length, Bool, true, false, Option, None, Some, is_some}
use Rattle.ts_packet.specs.declared.cell.Cell.{Cell}
use Rattle.chain_model.specs.Prefix.{IsPrefix}
use Rattle.chain_model.specs.PluginRule.{PluginRule}
use Rattle.chain_model.specs.Apply.{OwnEnd, last_passed, stopped, refused, StageList}
use Rattle.chain_model.specs.Joint.{agreement_of}
use Rattle.plugin_trait.specs.Steps.{IsPreallocatedFor}
use Rattle.plugin_trait.specs.declared.list_end.ListEnd.{ListEnd}
use Rattle.plugin_trait.specs.declared.list_end.ListEnd.TheVariants.{Through, Last, Stop, Refuse, NoMemory}

-- the list that was made is the rule's, and ends as it does; where memory ran out it is the rule's so far
abbrev pub Makes : StageList → List Cell → ListEnd → Type 0
Makes list made Through = (made ≡ list.cells) × (list.ended ≡ None)
Makes list made Last = (made ≡ list.cells) × (list.ended ≡ Some last_passed)
Makes list made Stop = (made ≡ list.cells) × (list.ended ≡ Some stopped)
Makes list made (Refuse reason) = (made ≡ list.cells) × (list.ended ≡ Some (refused reason))
Makes list made NoMemory = IsPrefix made list.cells

-- how the list of the cells that were met in a piece has ended: after a last packet, or not
abbrev pub end_of_window : ListEnd → Option OwnEnd
end_of_window Last = Some last_passed
end_of_window _ = None

-- what the plugin made of the cells that it met in a piece, so far
abbrev pub made_so_far : List Cell → ListEnd → StageList
made_so_far made end = record { cells = made; ended = end_of_window end }

-- an agreement is reported with the cell at which it first holds, and so not again: it is above what was given before
abbrev pub newly_agreed : ℕ → Option ℕ → Option ℕ
newly_agreed before None = None
newly_agreed before (Some agreed) = if nat_lt before agreed then Some agreed else None

-- an agreement is noted once: whether it was noted before, whether the plugin agrees, what is reported, whether it is noted
abbrev pub AgreesNow : Bool → Bool → ℕ → Option ℕ → Bool → Type 0
AgreesNow true agrees now told after = (told ≡ None) × (after ≡ true)
AgreesNow false true now told after = (told ≡ Some now) × (after ≡ true)
AgreesNow false false now told after = (told ≡ None) × (after ≡ false)

-- what is reported of the agreement, and what is noted, are those of the cells that were met
pub record TellsAgreement (rule : PluginRule) (met : List Cell) (before : ℕ) (told : Option ℕ)
    (noted : Bool) : Type 0 where
  pub tells : told ≡ newly_agreed before (agreement_of rule met)
  pub notes : noted ≡ is_some (agreement_of rule met)

-- a plugin that stands for so many cells has room for the notes on `len` more, after its mark
pub record HasRoomFor (preallocated : Option ℕ) (stands : List Cell → ℕ → Type 0) (at len : ℕ) : Type 0 where
  pub history : List Cell
  pub mark : ℕ
  pub holds : stands history mark
  pub count : length history ≡ at
  pub within : IsPreallocatedFor preallocated (at + len - mark)
