use Rattle.std.proofs.Common.{Result, subst}
use Rattle.plugin_options.specs.Refusal.{ReadsParsed}
use Rattle.plugin_options.specs.declared.refusal.Refusal.{Refusal}
use Rattle.plugin_settings.specs.declared.plugin_conf.PluginConf.{PluginConf}
use Rattle.plugin_settings.proofs.reading.with_shared.Goals as goal

pub returns-in-Ok-clause-reads : goal.returns-in-Ok-clause-reads
returns-in-Ok-clause-reads c = λ table reads. c.shared_with.ensures.reads table
    (subst (λ (conf : Result PluginConf Refusal). ReadsParsed table c.args.found.now conf) c.in-Ok.is reads)

pub returns-in-Err-clause-reads : goal.returns-in-Err-clause-reads
returns-in-Err-clause-reads c = λ table reads. c.refused.ensures.reads table
    (subst (λ (conf : Result PluginConf Refusal). ReadsParsed table c.args.found.now conf) c.in-Err.is reads)
