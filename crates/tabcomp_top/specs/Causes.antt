-- The table of causes of `tstabcomp`: what each status says, and when it comes. This project's own rule.
use Rattle.std.specs.Prelude.{◌≡◌, ◌⊎◌, ℕ, ◌<◌, ◌≤◌, List, [], ◌∷◌, length, take, IfSome, Result, Ok, Err}
use Rattle.ts_outside.specs.Count.{HasCause}
use Rattle.ts_outside.specs.Told.{grown}
use Rattle.ts_outside.specs.Desk.{DeskView, content}
use Rattle.tabcomp_top.specs.TabWords.{Job}
use Rattle.tabcomp_top.specs.Conversion.{converted}
use Rattle.tabcomp_top.specs.TabCall.{IsRead, most_bytes}
use Rattle.tabcomp_top.specs.declared.task.Task.TheVariants as task
use Rattle.tabcomp_top.specs.declared.status.TabStatus.{TabStatus}
use Rattle.tabcomp_top.specs.declared.status.TabStatus.TheVariants.{Done, NoMemory, Words, ReadFault, WriteFault, Compile, Decompile, TooMany}

-- the input was read, and its conversion is refused with this status
pub record IsRefused (job : Job) (old new : DeskView) (why : TabStatus) : Type 0 where
  pub bytes : List ℕ
  pub read : IsRead job old bytes
  pub no_conversion : converted job.task bytes ≡ Err why
  pub nothing_written : new.outputs ≡ old.outputs

-- the input was read, and an output was closed with exactly its conversion
pub record IsConverted (job : Job) (old new : DeskView) : Type 0 where
  pub bytes : List ℕ
  pub text : List ℕ
  pub read : IsRead job old bytes
  pub conversion : converted job.task bytes ≡ Ok text
  pub written : new.outputs ≡ grown old.outputs ((job.output, text) ∷ [])
  pub no_fault : new.write_faults ≡ old.write_faults

-- the input was read and has a conversion, of which at most a first part is in an output
pub record IsCutShort (job : Job) (old new : DeskView) : Type 0 where
  pub bytes : List ℕ
  pub text : List ℕ
  pub read : IsRead job old bytes
  pub conversion : converted job.task bytes ≡ Ok text
  pub written : (new.outputs ≡ old.outputs)
      ⊎ ((count : ℕ) × (count ≤ length text) × (new.outputs ≡ grown old.outputs ((job.output, take count text) ∷ [])))
  pub rose : HasCause old.write_faults new.write_faults

-- what a status says of a call whose words ask for this job; sections that a text was compiled to are never refused
abbrev pub TellsCause : Job → DeskView → DeskView → TabStatus → Type 0
TellsCause job old new Done = IsConverted job old new
TellsCause job old new NoMemory = new.outputs ≡ old.outputs
TellsCause job old new (Words word) = ⊥
TellsCause job old new ReadFault =
    HasCause old.read_faults new.read_faults × (new.outputs ≡ old.outputs)
TellsCause job old new WriteFault = IsCutShort job old new
TellsCause job old new (Compile fault) = IsRefused job old new (Compile fault)
TellsCause job old new (Decompile fault) = IsRefused job old new (Decompile fault) × (job.task ≡ task.Decompile)
TellsCause job old new TooMany =
    IfSome (content old job.input) (λ file. most_bytes < length file) × (new.outputs ≡ old.outputs)

-- the status of an input by its conversion: out of memory, a failed read, and else exactly the refusal,
-- or the status of writing the result
abbrev pub ComesOf : Result (List ℕ) TabStatus → TabStatus → Type 0
ComesOf (Err why) status = (status ≡ NoMemory) ⊎ ((status ≡ ReadFault) ⊎ (status ≡ why))
ComesOf (Ok text) status =
    (status ≡ NoMemory) ⊎ ((status ≡ ReadFault) ⊎ ((status ≡ Done) ⊎ (status ≡ WriteFault)))

-- when a status comes, for an input that the desk has
pub record ComesExactly (job : Job) (file : List ℕ) (status : TabStatus) : Type 0 where
  pub too_many : most_bytes < length file → (status ≡ NoMemory) ⊎ ((status ≡ ReadFault) ⊎ (status ≡ TooMany))
  pub within : length file ≤ most_bytes → ComesOf (converted job.task file) status

-- both
pub record HasCauses (job : Job) (old new : DeskView) (status : TabStatus) : Type 0 where
  pub tells : TellsCause job old new status
  pub exactly : IfSome (content old job.input) (λ file. ComesExactly job file status)
