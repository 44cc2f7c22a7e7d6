use Rattle.monitor_lines.specs.declared.indicator.Indicator.TheVariants.{Rst}
use Rattle.monitor_services.specs.declared.limits.TheConstants.{CLOCK_LIMIT}
use Rattle.monitor_services.specs.declared.pid_kind.PidKind.TheVariants.{Component, Clock}
use Rattle.monitor_tables.specs.TableIds.{is_scrambled}
use Rattle.monitor_tables.specs.TableKeys.{cat_key, nit_key, pat_key, sdt_key, tdt_key}
use Rattle.monitor_priorities.proofs.Dropping.{crcs-dropped, events-dropped, table-dropped, sections-dropped}
use Rattle.monitor_priorities.proofs.priority_laws.a_dropped_cell_leaves_the_priorities.Goals as goal

pub returns-clause-first : goal.returns-clause-first
returns-clause-first c = λ gap pcr_pid rows history has. record {
  pat = table-dropped _ (pat_key pcr_pid) rows.pat history (c.a_dropped_cell_leaves_the_key.ensures.key (pat_key pcr_pid) rows.pat.key history) has.pat;
  counters = c.a_dropped_cell_has_no_counter.ensures rows.counters history has.counters;
  pmts = c.a_dropped_cell_leaves_the_rows.ensures.pmt pcr_pid rows.pmts history has.pmts;
  components = c.a_dropped_cell_leaves_the_rows.ensures.pid Component gap pcr_pid rows.components history has.components;
}

pub returns-clause-second : goal.returns-clause-second
returns-clause-second c = λ bitrate pcr_pid rows history has. record {
  crcs = crcs-dropped rows.crcs history has.crcs;
  clocks = c.a_dropped_cell_leaves_the_rows.ensures.pid Clock CLOCK_LIMIT pcr_pid rows.clocks history has.clocks;
  rate_is = has.rate_is;
  rate = has.rate;
  steps = c.a_dropped_cell_has_no_pcr.ensures rows.steps history has.steps;
  stamps = c.a_dropped_cell_leaves_the_rows.ensures.stamp pcr_pid rows.stamps history has.stamps;
  scrambled = c.a_dropped_cell_leaves_the_key.ensures.seen pcr_pid is_scrambled rows.scrambled history has.scrambled;
  cat = table-dropped _ (cat_key pcr_pid) rows.cat history (c.a_dropped_cell_leaves_the_key.ensures.key (cat_key pcr_pid) rows.cat.key history) has.cat;
}

pub returns-clause-third : goal.returns-clause-third
returns-clause-third c = λ pcr_pid rows history has. record {
  tables = record {
    nit = table-dropped _ (nit_key pcr_pid) rows.tables.nit history (c.a_dropped_cell_leaves_the_key.ensures.key (nit_key pcr_pid) rows.tables.nit.key history) has.tables.nit;
    sdt = table-dropped _ (sdt_key pcr_pid) rows.tables.sdt history (c.a_dropped_cell_leaves_the_key.ensures.key (sdt_key pcr_pid) rows.tables.sdt.key history) has.tables.sdt;
    tdt = table-dropped _ (tdt_key pcr_pid) rows.tables.tdt history (c.a_dropped_cell_leaves_the_key.ensures.key (tdt_key pcr_pid) rows.tables.tdt.key history) has.tables.tdt;
  };
  orphans = c.a_dropped_cell_meets_no_pid.ensures pcr_pid rows.orphans history has.orphans;
  eits = events-dropped pcr_pid rows.eits history (c.a_dropped_cell_leaves_the_rows.ensures.event pcr_pid rows.eits.events history) has.eits;
  rst = sections-dropped rows.rst 19 Rst history has.rst;
}
