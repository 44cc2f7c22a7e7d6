-- How the lines of a run are printed while it goes. This project's own rule.
use Rattle.std.specs.Prelude.{◌≡◌, ◌-◌, ℕ, Bool, true, List, [], map, slice_get, unwrap_or}
use Rattle.std.specs.Option.{option_map}
use Rattle.ts_outside.specs.Desk.{DeskView}
use Rattle.ts_outside.specs.Saying.{Says}
use Rattle.chain_model.specs.Prefix.{IsPrefix}
use Rattle.chain_live.specs.LiveReports.{LiveLine}
use Rattle.chain_rounds.specs.Told.{shown}
use Rattle.chain_rounds.specs.declared.told_line.ToldLine.{ToldLine}
use Rattle.plugin_settings.specs.declared.plugin_item.PluginItem.{PluginItem}
use Rattle.plugin_settings.specs.Plugins.{name_of}
use Rattle.tsp_top.specs.Printed.{live_text}

-- the name of the plugin of this number, counted from 1
abbrev pub name_at : List PluginItem → ℕ → List ℕ
name_at items number = unwrap_or (option_map (λ item. name_of item.conf) (slice_get items (number - 1))) []

-- lines that plugins of these settings gave out, as they are printed
abbrev pub told_text : Bool → List PluginItem → List ToldLine → List ℕ
told_text bare items lines = live_text bare (map (shown (name_at items)) lines)

-- the first of these lines were printed, and all of them where `whole` says so
pub record HasPrinted (bare : Bool) (lines : List LiveLine) (old new : DeskView) (failed whole : Bool) : Type 0 where
  pub first : List LiveLine
  pub begins : IsPrefix first lines
  pub said : Says old new (live_text bare first) failed
  pub all : whole ≡ true → first ≡ lines
