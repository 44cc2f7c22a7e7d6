use Rattle.std.proofs.Common.{◌∙◌, sym}
use Rattle.plug_masked.specs.OnlyLabels.{shown}
use Rattle.plug_masked.proofs.ShownLemmas.{fault-shown}
use Rattle.plug_masked.proofs.masked_plugin.MaskedPluginPlugin.has_fault.Goals as goal

pub returns : goal.returns
returns g c = λ history stands.
    let only = c.args.self.now.only in
    c.has_fault.ensures (shown only history) stands
    ∙ sym (fault-shown only (g.P.Plugin.rule c.args.self.now.plugin) c.args.cut history)
