-- Valid settings of `compact` and `rmorphan`. This project's own rule.
use Rattle.std.specs.Prelude.{◌≤◌, ℕ, false}
use Rattle.plugin_options.specs.declared.limits.TheConstants.{MOST_WINDOW}
use Rattle.plug_window.specs.declared.window_conf.WindowConf.{WindowConf}

-- the window has at least one packet and at most 100,000
pub record IsValidWindow (c : WindowConf) : Type 0 where
  pub some_packet : 1 ≤ c.window
  pub bounded : c.window ≤ MOST_WINDOW

-- the settings of a window without `stuffing`: a packet is dropped if none is output in its place
abbrev pub plain_window : ℕ → WindowConf
plain_window window = record { window = window; stuffing = false }
