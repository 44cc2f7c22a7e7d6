use Rattle.std.proofs.Common.{refl, sym, subst}
use Rattle.monitor_pcrs.specs.LastPcrs.{HasRate}
use Rattle.monitor_tables.specs.TableIds.{is_scrambled}
use Rattle.monitor_tables.specs.TableKeys.{cat_key}
use Rattle.monitor_priorities.proofs.second_rows.SecondRows.new.Goals as goal

pub returns : goal.returns
returns c = λ pcr_pid. record {
  crcs = c.new-3.ensures;
  clocks = c.new-4.ensures pcr_pid;
  rate_is = c.in_ok-new-2.ensures.rate;
  rate = subst HasRate (sym c.in_ok-new-2.ensures.rate) c.requires;
  steps = c.in_ok-new-2.ensures.fresh;
  stamps = c.new-5.ensures pcr_pid;
  scrambled = c.new-6.ensures pcr_pid is_scrambled;
  cat = record { kind_is = c.in_ok-new.ensures.kind; row_is = c.in_ok-new.ensures.stands (cat_key pcr_pid) refl refl (λ history packet. refl) };
}
