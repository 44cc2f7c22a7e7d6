-- The conversion of the bytes that `tstabcomp` reads. This project's own rule.
use Rattle.std.specs.Prelude.{◌≡◌, ℕ, List, Result, Ok, Err}
use Rattle.tabcomp_core.specs.declared.fault.CompileFault.{CompileFault}
use Rattle.tabcomp_core.specs.declared.fault.DecompileFault.{DecompileFault}
use Rattle.tabcomp_core.specs.Compiling.{compiled}
use Rattle.tabcomp_core.specs.Decompiling.{decompiled}
use Rattle.tabcomp_top.specs.declared.task.Task.{Task}
use Rattle.tabcomp_top.specs.declared.task.Task.TheVariants as task
use Rattle.tabcomp_top.specs.declared.status.TabStatus.{TabStatus}
use Rattle.tabcomp_top.specs.declared.status.TabStatus.TheVariants.{NoMemory, Compile, Decompile}

-- what a text is compiled to, and the status where that is refused
abbrev pub of_compiled : Result (List ℕ) CompileFault → Result (List ℕ) TabStatus
of_compiled (Ok sections) = Ok sections
of_compiled (Err fault) = Err (Compile fault)

-- what sections are decompiled to, and the status where that is refused
abbrev pub of_decompiled : Result (List ℕ) DecompileFault → Result (List ℕ) TabStatus
of_decompiled (Ok text) = Ok text
of_decompiled (Err fault) = Err (Decompile fault)

-- the canonical text: what the sections of a text are decompiled to
abbrev pub canonical : Result (List ℕ) CompileFault → Result (List ℕ) TabStatus
canonical (Ok sections) = of_decompiled (decompiled sections)
canonical (Err fault) = Err (Compile fault)

-- the conversion of bytes, or the status that says why there is none
unfoldable pub converted : Task → List ℕ → Result (List ℕ) TabStatus
converted task.Compile bytes = of_compiled (compiled bytes)
converted task.Decompile bytes = of_decompiled (decompiled bytes)
converted task.Canonical bytes = canonical (compiled bytes)

-- a call refused as the conversion does; out of memory says nothing about the bytes
abbrev pub RefusesAs : TabStatus → Result (List ℕ) TabStatus → Type 0
RefusesAs NoMemory result = Unit {0}
RefusesAs status result = result ≡ Err status

-- the result of a call is the conversion; out of memory says nothing about the bytes
abbrev pub Converts : {X : Type 0} → (X → List ℕ) → Result X TabStatus → Result (List ℕ) TabStatus → Type 0
Converts view (Ok x) result = result ≡ Ok (view x)
Converts view (Err status) result = RefusesAs status result
