-- The table of causes, from what a call does.
use Rattle.std.proofs.Common.{◌≡◌, ◌⊎◌, inl, inr, ℕ, ◌≤◌, ◌<◌, List, Option, Some, None, Result, Ok, Err, refl, ap, sym, subst, length, arith}
use Rattle.std.specs.Prelude.{IfSome, MatchResult}
use Rattle.tabcomp_core.specs.declared.fault.CompileFault.{CompileFault}
use Rattle.tabcomp_core.specs.declared.fault.DecompileFault.{DecompileFault}
use Rattle.tabcomp_core.specs.Compiling.{compiled}
use Rattle.tabcomp_core.specs.Decompiling.{decompiled}
use Rattle.tabcomp_core.specs.ToldAgain.{IsToldAgain}
use Rattle.ts_outside.specs.Count.{HasCause, IsQuiet, raised}
use Rattle.ts_outside.specs.Desk.{DeskView, content}
use Rattle.ts_outside.proofs.Views.{HasCause-raised}
use Rattle.ts_outside.specs.Faultless.{NothingFails}
use Rattle.tabcomp_top.specs.TabWords.{Job, job_of}
use Rattle.tabcomp_top.specs.Telling.{Tells}
use Rattle.tabcomp_top.specs.Conversion.{converted, of_compiled, of_decompiled, canonical}
use Rattle.tabcomp_top.specs.Putting.{PutEnd, not_opened, cut_short, written, out_of_memory, status_of_put, CanPut}
use Rattle.tabcomp_top.specs.TabCall.{TabEnd, not_read, too_long, refused, put, no_memory_to_read, no_memory_to_convert, status_of, desk_after, CanEnd, IsRead, TabTheorem, RefusesWords, CallsTab, most_bytes}
use Rattle.tabcomp_top.specs.Causes.{TellsCause, ComesOf, ComesExactly, HasCauses}
use Rattle.tabcomp_top.specs.declared.task.Task.{Task}
use Rattle.tabcomp_top.specs.declared.task.Task.TheVariants as task
use Rattle.tabcomp_top.specs.declared.status.TabStatus.{TabStatus}
use Rattle.tabcomp_top.specs.declared.status.TabStatus.TheVariants.{Done, NoMemory, Words, ReadFault, WriteFault, Compile, Decompile, TooMany}

-- a report changes neither the outputs nor the counts of reading and writing
record Kept (old new : DeskView) : Type 0 where
  outputs : new.outputs ≡ old.outputs
  read_faults : new.read_faults ≡ old.read_faults
  write_faults : new.write_faults ≡ old.write_faults

kept : (old new : DeskView) (text : List ℕ) → Tells old new text → Kept old new
kept old new text (inl is) = record {
  outputs = ap (λ (d : DeskView). d.outputs) is;
  read_faults = ap (λ (d : DeskView). d.read_faults) is;
  write_faults = ap (λ (d : DeskView). d.write_faults) is;
}
kept old new text (inr short) = record {
  outputs = ap (λ (d : DeskView). d.outputs) short.2;
  read_faults = ap (λ (d : DeskView). d.read_faults) short.2;
  write_faults = ap (λ (d : DeskView). d.write_faults) short.2;
}

-- a count that is one more fault later
rose : (old new : ℕ) → new ≡ raised old → HasCause old new
rose old new is = subst (λ (n : ℕ). HasCause old n) (sym is) (HasCause-raised old)

-- the statuses by which a conversion is refused
abbrev IsRefusal : TabStatus → Type 0
IsRefusal (Compile fault) = Unit {0}
IsRefusal (Decompile fault) = Unit {0}
IsRefusal _ = ⊥

refusal-compiled : (r : Result (List ℕ) CompileFault) (why : TabStatus) → of_compiled r ≡ Err why → IsRefusal why
refusal-compiled (Ok sections) why is = absurd cc
refusal-compiled (Err fault) why is = let same : Compile fault ≡ why = cc in subst IsRefusal same tt

refusal-decompiled : (r : Result (List ℕ) DecompileFault) (why : TabStatus) → of_decompiled r ≡ Err why → IsRefusal why
refusal-decompiled (Ok text) why is = absurd cc
refusal-decompiled (Err fault) why is = let same : Decompile fault ≡ why = cc in subst IsRefusal same tt

refusal-canonical : (r : Result (List ℕ) CompileFault) (why : TabStatus) → canonical r ≡ Err why → IsRefusal why
refusal-canonical (Ok sections) why is = refusal-decompiled (decompiled sections) why is
refusal-canonical (Err fault) why is = let same : Compile fault ≡ why = cc in subst IsRefusal same tt

refusal : (what : Task) (bytes : List ℕ) (why : TabStatus) → converted what bytes ≡ Err why → IsRefusal why
unfolding converted
refusal task.Compile bytes why is = refusal-compiled (compiled bytes) why is
refusal task.Decompile bytes why is = refusal-decompiled (decompiled bytes) why is
refusal task.Canonical bytes why is = refusal-canonical (compiled bytes) why is

-- what is compiled is decompiled
abbrev IsDecompiled : Type 0
IsDecompiled = (text sections : List ℕ) → compiled text ≡ Ok sections → IsToldAgain text sections

-- where sections are decompiled they are not refused
never-refused : (r : Result (List ℕ) DecompileFault) (text : List ℕ) (fault : DecompileFault) → r ≡ Ok text
    → of_decompiled r ≡ Err (Decompile fault) → ⊥
never-refused (Ok found) text fault is gives = absurd cc
never-refused (Err why) text fault is gives = absurd cc

-- so those of a text are not
never-declined : IsDecompiled → (text : List ℕ) (fault : DecompileFault) (r : Result (List ℕ) CompileFault) → compiled text ≡ r
    → canonical r ≡ Err (Decompile fault) → ⊥
never-declined told text fault (Ok sections) is gives = never-refused (decompiled sections) _ fault (told text sections is).again gives
never-declined told text fault (Err why) is gives = absurd cc

pub canonical-told : IsDecompiled → (text : List ℕ) (fault : DecompileFault) → converted task.Canonical text ≡ Err (Decompile fault) → ⊥
unfolding converted
canonical-told told text fault gives = never-declined told text fault (compiled text) refl gives

-- nor is a text refused as sections are
compiled-told : (fault : DecompileFault) (r : Result (List ℕ) CompileFault) → of_compiled r ≡ Err (Decompile fault) → ⊥
compiled-told fault (Ok sections) gives = absurd cc
compiled-told fault (Err why) gives = absurd cc

-- the task that refuses sections
declined : IsDecompiled → (what : Task) (bytes : List ℕ) (fault : DecompileFault) → converted what bytes ≡ Err (Decompile fault)
    → what ≡ task.Decompile
unfolding converted
declined told task.Compile bytes fault gives = absurd (compiled-told fault (compiled bytes) gives)
declined told task.Decompile bytes fault gives = refl
declined told task.Canonical bytes fault gives = absurd (canonical-told told bytes fault gives)

-- what the status of an end says: of one whose conversion is refused
tells-refused : IsDecompiled → (job : Job) (old new : DeskView) (bytes : List ℕ) (why : TabStatus) → IsRefusal why → IsRead job old bytes
    → converted job.task bytes ≡ Err why → new.outputs ≡ old.outputs → TellsCause job old new why
tells-refused told job old new bytes (Compile fault) kind read is same = record { bytes = bytes; read = read; no_conversion = is; nothing_written = same }
tells-refused told job old new bytes (Decompile fault) kind read is same =
    (record { bytes = bytes; read = read; no_conversion = is; nothing_written = same }, declined told job.task bytes fault is)
tells-refused told job old new bytes Done kind read is same = absurd kind
tells-refused told job old new bytes NoMemory kind read is same = absurd kind
tells-refused told job old new bytes (Words word) kind read is same = absurd kind
tells-refused told job old new bytes ReadFault kind read is same = absurd kind
tells-refused told job old new bytes WriteFault kind read is same = absurd kind
tells-refused told job old new bytes TooMany kind read is same = absurd kind

-- of one that came to the output
tells-put : (job : Job) (old new : DeskView) (bytes text line : List ℕ) (end : PutEnd) → IsRead job old bytes
    → converted job.task bytes ≡ Ok text → CanPut text end → Kept (desk_after job old (put bytes text end)) new → TellsCause job old new (status_of_put end)
tells-put job old new bytes text line not_opened read is can k =
    record { bytes = bytes; text = text; read = read; conversion = is; written = inl k.outputs; rose = rose old.write_faults new.write_faults k.write_faults }
tells-put job old new bytes text line (cut_short count) read is can k =
    record { bytes = bytes; text = text; read = read; conversion = is; written = inr (count, can, k.outputs); rose = rose old.write_faults new.write_faults k.write_faults }
tells-put job old new bytes text line written read is can k =
    record { bytes = bytes; text = text; read = read; conversion = is; written = k.outputs; no_fault = k.write_faults }
tells-put job old new bytes text line out_of_memory read is can k = k.outputs

-- of all
tells : IsDecompiled → (job : Job) (old new : DeskView) (line : List ℕ) (end : TabEnd) → CanEnd job old end
    → Tells (desk_after job old end) new line → TellsCause job old new (status_of end)
tells told job old new line not_read can is = let k = kept _ new line is in (rose old.read_faults new.read_faults k.read_faults, k.outputs)
tells told job old new line too_long can is = let k = kept _ new line is in (can, k.outputs)
tells told job old new line (refused bytes why) can is =
    let k = kept _ new line is in tells-refused told job old new bytes why (refusal job.task bytes why can.1) can.0 can.1 k.outputs
tells told job old new line (put bytes text end) can is = tells-put job old new bytes text line end can.0 can.1 can.2 (kept _ new line is)
tells told job old new line no_memory_to_read can is = (kept _ new line is).outputs
tells told job old new line no_memory_to_convert can is = (kept _ new line is).outputs

-- running out of memory and a failed reading come with any conversion
comes-no_memory : (r : Result (List ℕ) TabStatus) → ComesOf r NoMemory
comes-no_memory (Ok text) = inl refl
comes-no_memory (Err why) = inl refl

comes-read_fault : (r : Result (List ℕ) TabStatus) → ComesOf r ReadFault
comes-read_fault (Ok text) = inr (inl refl)
comes-read_fault (Err why) = inr (inl refl)

comes-put : (text : List ℕ) (end : PutEnd) → ComesOf (Ok text) (status_of_put end)
comes-put text not_opened = inr (inr (inr refl))
comes-put text (cut_short count) = inr (inr (inr refl))
comes-put text written = inr (inr (inl refl))
comes-put text out_of_memory = inl refl

-- an input that was read is not too long
read-exactly : (job : Job) (file bytes : List ℕ) (status : TabStatus) → bytes ≡ file → length bytes ≤ most_bytes
    → ComesOf (converted job.task bytes) status → ComesExactly job file status
read-exactly job file bytes status same within comes = record {
  too_many = λ long. let short : length file ≤ most_bytes = subst (λ (l : List ℕ). length l ≤ most_bytes) same within in absurd (omega (arith, long, short));
  within = λ _. subst (λ (l : List ℕ). ComesOf (converted job.task l) status) same comes;
}

-- when the status of an end comes
exactly : (job : Job) (old : DeskView) (told : Option (List ℕ)) (end : TabEnd) → content old job.input ≡ told → CanEnd job old end
    → IfSome told (λ file. ComesExactly job file (status_of end))
exactly job old None end is can = tt
exactly job old (Some file) not_read is can = record { too_many = λ _. inr (inl refl); within = λ _. comes-read_fault (converted job.task file) }
exactly job old (Some file) too_long is can =
    let long : most_bytes < length file = subst (λ (o : Option (List ℕ)). IfSome o (λ f. most_bytes < length f)) is can in
    record { too_many = λ _. inr (inr refl); within = λ (short : length file ≤ most_bytes). absurd (omega (arith, long, short)) }
exactly job old (Some file) (refused bytes why) is can =
    read-exactly job file bytes why (subst (λ (o : Option (List ℕ)). IfSome o (λ f. bytes ≡ f)) is can.0.told) can.0.within
    (subst (λ (r : Result (List ℕ) TabStatus). ComesOf r why) (sym can.1) (inr (inr refl)))
exactly job old (Some file) (put bytes text end) is can =
    read-exactly job file bytes (status_of_put end) (subst (λ (o : Option (List ℕ)). IfSome o (λ f. bytes ≡ f)) is can.0.told) can.0.within
    (subst (λ (r : Result (List ℕ) TabStatus). ComesOf r (status_of_put end)) (sym can.1) (comes-put text end))
exactly job old (Some file) no_memory_to_read is can = record { too_many = λ _. inl refl; within = λ _. comes-no_memory (converted job.task file) }
exactly job old (Some file) no_memory_to_convert is can = record { too_many = λ _. inl refl; within = λ _. comes-no_memory (converted job.task file) }

-- the table of causes
theorem-causes : IsDecompiled → (job : Job) (old new : DeskView) (status : TabStatus) → TabTheorem job old new status → HasCauses job old new status
theorem-causes told job old new status is = record {
  tells = subst (λ (s : TabStatus). TellsCause job old new s) (sym is.status_is) (tells told job old new _ is.end is.can_end is.desk_is);
  exactly = subst (λ (s : TabStatus). IfSome (content old job.input) (λ file. ComesExactly job file s)) (sym is.status_is)
      (exactly job old (content old job.input) is.end refl is.can_end);
}

pub causes : IsDecompiled → (words : List (List ℕ)) (job : Job) (old new : DeskView) (status : TabStatus)
    → job_of words ≡ Ok job → CallsTab words old new status → HasCauses job old new status
causes told words job old new status is call =
    theorem-causes told job old new status
    (subst (λ (r : Result Job ℕ). MatchResult r (λ j. TabTheorem j old new status) (λ word. RefusesWords word old new status)) is call)

-- where no fault happened there is none to report
no_cause : (old new : ℕ) → IsQuiet old new → HasCause old new → ⊥
no_cause old new quiet cause = let rise = cause.rose quiet.below in let same = quiet.same in absurd (omega arith)

-- without faults outside, a conversion is written, or memory ran out
done : (job : Job) (old new : DeskView) (status : TabStatus) (text : List ℕ) → TellsCause job old new status → NothingFails old new
    → ComesOf (Ok text) status → (status ≡ Done) ⊎ (status ≡ NoMemory)
done job old new status text cause fine (inl is) = inr is
done job old new status text cause fine (inr (inl is)) =
    absurd (no_cause old.read_faults new.read_faults fine.reads (subst (λ (s : TabStatus). TellsCause job old new s) is cause).0)
done job old new status text cause fine (inr (inr (inl is))) = inl is
done job old new status text cause fine (inr (inr (inr is))) =
    absurd (no_cause old.write_faults new.write_faults fine.writes (subst (λ (s : TabStatus). TellsCause job old new s) is cause).rose)

pub completeness : IsDecompiled → (words : List (List ℕ)) (job : Job) (file text : List ℕ) (old new : DeskView) (status : TabStatus)
    → job_of words ≡ Ok job → content old job.input ≡ Some file → length file ≤ most_bytes → converted job.task file ≡ Ok text
    → CallsTab words old new status → NothingFails old new → (status ≡ Done) ⊎ (status ≡ NoMemory)
completeness decompiles words job file text old new status is told within conversion call fine =
    let both = causes decompiles words job old new status is call in
    let comes : ComesExactly job file status = subst (λ (o : Option (List ℕ)). IfSome o (λ f. ComesExactly job f status)) told both.exactly in
    done job old new status text both.tells fine (subst (λ (r : Result (List ℕ) TabStatus). ComesOf r status) conversion (comes.within within))
