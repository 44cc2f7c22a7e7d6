-- A call at a desk that never fails meets the premises of the headline.
use Rattle.std.proofs.Common.{ℕ, List, [], ◌∷◌, Option, None, Some, refl, arith}
use Rattle.ts_outside.specs.Count.{IsQuiet}
use Rattle.ts_outside.specs.Preallocated.{PreallocatedDeskView, preallocated_desk}
use Rattle.ts_outside.specs.Faultless.{NothingFails}
use Rattle.chain_args.specs.declared.input_conf.InputConf.{InputConf}
use Rattle.chain_args.specs.declared.input_conf.InputConf.TheVariants as input
use Rattle.plugin_settings.specs.declared.plugin_item.PluginItem.{PluginItem}
use Rattle.plugin_settings.specs.Plugins.{table_file_of}
use Rattle.tsp_top.specs.Headline.{TellsInput, TellsTable, TellsTables}

quiet : IsQuiet 0 0
quiet = record { same = refl; below = omega arith }

pub preallocated-fails_not : (old new : PreallocatedDeskView) → NothingFails (preallocated_desk old) (preallocated_desk new)
preallocated-fails_not old new = record { reads = quiet; writes = quiet; reports = quiet }

pub preallocated-tells : (conf : InputConf) (desk : PreallocatedDeskView) → TellsInput conf (preallocated_desk desk) desk.files
preallocated-tells (input.File name form resync) desk = refl
preallocated-tells (input.Null count) desk = tt
preallocated-tells (input.TestGen seed count) desk = tt

preallocated-tells_table : (file : Option (List ℕ)) (desk : PreallocatedDeskView) → TellsTable file (preallocated_desk desk) desk.files
preallocated-tells_table None desk = tt
preallocated-tells_table (Some name) desk = refl

pub preallocated-tells_tables : (items : List PluginItem) (desk : PreallocatedDeskView) → TellsTables items (preallocated_desk desk) desk.files
preallocated-tells_tables [] desk = tt
preallocated-tells_tables (item ∷ items) desk = (preallocated-tells_table (table_file_of item.conf) desk, preallocated-tells_tables items desk)
