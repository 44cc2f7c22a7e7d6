-- Valid settings of `filter`.
-- This project's own rule.
use Rattle.std.specs.Prelude.{◌==◌, ◌||◌, ◌&&◌, Bool, IsTrue, length, not}
use Rattle.ts_packet.specs.declared.labels.TheConstants.{LABEL_COUNT}
use Rattle.ts_packet.specs.declared.numbers.TheConstants.{PID_COUNT}
use Rattle.plugin_options.specs.NumberSet.{AllBelow}
use Rattle.plug_pass.specs.declared.filter_conf.FilterConf.{FilterConf}

-- one of the five conditions is given
abbrev pub has_condition : FilterConf → Bool
has_condition c =
    not (length c.pid == 0) || (c.pcr || (c.unit_start || (c.scrambled || not (length c.label == 0))))

-- labels to be set are given
abbrev pub sets_labels : FilterConf → Bool
sets_labels c = not (length c.set_label == 0)

-- where labels are set every packet passes, so none is stuffed
abbrev pub filter_together : FilterConf → Bool
filter_together c = not (sets_labels c && c.stuffing)

-- the settings give what `filter` needs, each number in its range, and no two that exclude each other
pub record IsValidFilter (c : FilterConf) : Type 0 where
  pub pids : AllBelow PID_COUNT c.pid
  pub labels : AllBelow LABEL_COUNT c.label
  pub labels_set : AllBelow LABEL_COUNT c.set_label
  pub conditions : IsTrue (has_condition c)
  pub together : IsTrue (filter_together c)
