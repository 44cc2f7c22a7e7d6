use Rattle.std.proofs.Common.{List, ap, sym, ◌∙◌, ◌++◌, append-nil, take, drop, refl}
use Rattle.plugin_trait.specs.declared.line.Line.{Line}
use Rattle.plugin_trait.proofs.Saying.{silent-placed_after}
use Rattle.plug_end.specs.UntilRule.{until_rule}
use Rattle.plug_end.specs.UntilState.{conf_of}
use Rattle.plug_end.proofs.until.UntilPlugin.note.Goals as goal

pub returns-clause-gives : goal.returns-clause-gives
returns-clause-gives c = λ history mark holds le within.
    let none = silent-placed_after (until_rule (conf_of c.args.self.now)) (take mark history) (drop mark (take c.args._written history)) (record { no_lines = λ h packet labels. refl; no_summary = λ h. refl }) in (
      record {
        packets = holds.packets;
        unit_starts_met = holds.unit_starts_met;
        clocked = holds.clocked;
        few_packets = holds.few_packets;
        few_starts = holds.few_starts;
        marked = within;
        open_at_first = holds.open_at_first;
      },
      sym (ap (λ (more : List Line). c.args._lines.now.items ++ more) none ∙ append-nil c.args._lines.now.items),
    )
