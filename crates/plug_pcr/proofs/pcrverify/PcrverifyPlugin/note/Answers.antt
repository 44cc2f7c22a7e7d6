use Rattle.std.proofs.Common.{List, ◌++◌, ap, ◌∙◌, arith}
use Rattle.plugin_trait.specs.declared.line.Line.{Line}
use Rattle.plug_pcr.specs.PcrverifyConfOf.{conf_of}
use Rattle.plug_pcr.proofs.Verifying.{few_clocks, few_faults, given_is, verifies_to}
use Rattle.plug_pcr.proofs.pcrverify.PcrverifyPlugin.note.Goals as goal

pub overflow_add-self : goal.overflow_add-self
overflow_add-self c = omega (arith, few_clocks (conf_of c.args.self.now) _ _ _ _ _ _ _ c.requires.holds, c.drop_below-clocks.ensures.met_count)

pub overflow_add-self-2 : goal.overflow_add-self-2
overflow_add-self-2 c = omega (arith, few_faults (conf_of c.args.self.now) _ _ _ _ _ _ _ c.requires.holds, c.drop_below-clocks.ensures.fault_count)

pub returns-clause-gives : goal.returns-clause-gives
returns-clause-gives c = λ history mark w le within.
    let took = c.drop_below-clocks.ensures in (
      verifies_to (conf_of c.args.self.now) _ _ _ _ _ history mark w c.args.written le within _ took.faults _ took.met c.drop_below-clocks.result.0 c.drop_below-clocks.result.1 took.met_count took.fault_count,
      c.in_ok-push_lines_below.ensures.ok
          ∙ ap (λ (lines : List Line). c.args.lines.now.items ++ lines) (given_is (conf_of c.args.self.now) _ _ _ _ _ history mark w c.args.written le within _ took.faults),
    )
