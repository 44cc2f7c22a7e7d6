use Rattle.std.proofs.Common.{◌≡◌, ◌≤◌, ℕ, List, [], ◌++◌, sym, subst, is_ok, if◌then◌else◌}
use Rattle.plugin_trait.specs.declared.line.Line.{Line}
use Rattle.plug_masked.specs.OnlyLabels.{shown}
use Rattle.plug_masked.proofs.ShownLemmas.{length-shown, between-shown}
use Rattle.plug_masked.proofs.masked_plugin.MaskedPluginPlugin.note.Goals as goal

pub returns-clause-gives : goal.returns-clause-gives
returns-clause-gives g c = λ history mark holds le within.
    let only = c.args.self.now.only in
    let met = subst (λ (n : ℕ). c.args.written ≤ n) (sym (length-shown only history)) within in
    let gives = c.note.ensures.gives (shown only history) mark holds le met in (
      gives.0,
      subst (λ (lines : List Line). c.note.new.lines.items ≡ c.args.lines.now.items ++ (if is_ok c.note.result then lines else []))
          (sym (between-shown only (g.P.Plugin.rule c.args.self.now.plugin) history mark c.args.written)) gives.1,
    )
