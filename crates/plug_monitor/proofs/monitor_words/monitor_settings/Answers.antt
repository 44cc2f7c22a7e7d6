use Rattle.std.proofs.Common.{refl}
use Rattle.plugin_options.proofs.RefusalLemmas.{malformed, value_refused}
use Rattle.plug_monitor.specs.MonitorWords.{monitor, monitor_rows}
use Rattle.plug_monitor.proofs.monitor_words.monitor_settings.Goals as goal

pub returns-in_err-number-2-clause-reads : goal.returns-in_err-number-2-clause-reads
returns-in_err-number-2-clause-reads c =
    value_refused monitor c.args.found.now _ _ _ c.from_residual-in_err-number-2.ensures.1 c.in_err-number-2.ensures.reads refl
    (malformed monitor_rows c.args.found.now 3 _ refl)
