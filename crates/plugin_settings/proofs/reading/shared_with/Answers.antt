use Rattle.std.proofs.Common.{ℕ, Bool, Option, ap, ◌∙◌}
use Rattle.plugin_settings.specs.Items.{counts_of, every_of}
use Rattle.plugin_settings.specs.declared.plugin_conf.PluginConf.{PluginConf}
use Rattle.plugin_settings.specs.declared.plugin_item.PluginItem.{PluginItem}
use Rattle.plugin_settings.proofs.ItemLemmas.{item_refused, read_item}
use Rattle.plugin_settings.proofs.reading.shared_with.Goals as goal

pub returns-in_err-conf-clause-reads : goal.returns-in_err-conf-clause-reads
returns-in_err-conf-clause-reads c = λ table reads.
    item_refused table c.args.has_summary c.args.found.now c.args.conf _ _ c.from_residual.ensures.1 reads c.in_err-conf.ensures.reads

pub returns-clause-reads : goal.returns-clause-reads
returns-clause-reads c = λ table reads.
    let shared = c.in_ok-conf.shared in
    let ensures = c.in_ok-conf.ensures in
    read_item table c.args.has_summary c.args.found.now c.args.conf _ reads ensures.reads
    (ap (λ (x : PluginConf). let i : PluginItem = record { conf = x; every = shared.every; counts = shared.counts; only = shared.only } in i) ensures.same
    ∙ (ap (λ (x : Option ℕ). let i : PluginItem = record { conf = c.args.conf; every = x; counts = shared.counts; only = shared.only } in i) ensures.every
    ∙ (ap (λ (x : Bool). let i : PluginItem = record { conf = c.args.conf; every = every_of c.args.has_summary c.args.found.now; counts = x; only = shared.only } in i) ensures.counts
    ∙ ap (λ (x : _). let i : PluginItem = record { conf = c.args.conf; every = every_of c.args.has_summary c.args.found.now; counts = counts_of c.args.found.now; only = x } in i) ensures.only)))
