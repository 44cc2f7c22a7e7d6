-- What an assembly is seen as, and when it stands for the sections that it was given.
-- This project's own rule.
use Rattle.std.specs.Prelude.{◌≡◌, ℕ, Bool, false, List, Option}
use Rattle.std.specs.Map.{lookup}
use Rattle.ts_section.specs.SectionFields.{version_of, last_number_of}
use Rattle.ts_section.specs.SectionRun.{stands_alone}
use Rattle.ts_demux.specs.Tables.{era_of}
use Rattle.ts_demux.specs.Era.{EntryStands}
use Rattle.ts_demux.specs.Keys.{key_of, key_eq}
use Rattle.ts_demux.specs.declared.era.Era.{Era}
use Rattle.ts_demux.specs.declared.table_key.TableKey.{TableKey}

-- the last era of each key, in the order in which the keys were first seen, and whether a call ran out of memory
pub record AssemblyState : Type 0 where
  pub eras : List (TableKey × Era)
  pub failed : Bool

-- the last era of a key, if there is one
abbrev pub era_at : AssemblyState → TableKey → Option Era
era_at assembly key = lookup (key_eq key) assembly.eras

-- An assembly stands for the sections that it was given: no call ran out of memory, and for each section that may come
-- next the entry of its key stands for the era that this section would go on with.
pub record StandsFor (assembly : AssemblyState) (sections : List (List ℕ)) : Type 0 where
  pub working : assembly.failed ≡ false
  pub entries : (s : List ℕ) → stands_alone s ≡ false →
      EntryStands (era_at assembly (key_of s)) (version_of s) (last_number_of s) (era_of sections s)
