use Rattle.std.proofs.Common.{Bool, false, ◌&&◌, ap, sym, ◌∙◌, arith}
use Rattle.std.proofs.Math.Bool.{and-false}
use Rattle.ts_packet.specs.Header.{pid_of}
use Rattle.ts_packet.specs.Pcr.{has_pcr_of}
use Rattle.plugin_options.specs.Selection.{is_selected}
use Rattle.plug_pcr.specs.PcrverifyConfOf.{conf_of}
use Rattle.plug_pcr.proofs.Faulting.{pcr_none}
use Rattle.plug_pcr.proofs.Verifying.{verifies_other}
use Rattle.plug_pcr.proofs.pcrverify.Pcrverify.look.Goals as goal

pub returns-then-not-selects-clause-met : goal.returns-then-not-selects-clause-met
returns-then-not-selects-clause-met c = λ history mark w count labels.
    verifies_other (conf_of c.args.self.now) _ _ _ _ _ history mark w c.args.packet.now labels (omega (arith, count, c.requires.in_range))
    (ap (λ (a : Bool). a && has_pcr_of c.args.packet.now)
    (ap (is_selected c.args.self.now.pids false) (sym c.pid.ensures.field) ∙ sym c.if-not-selects.ensures))

pub returns-in-None-clause-met : goal.returns-in-None-clause-met
returns-in-None-clause-met c = λ history mark w count labels.
    verifies_other (conf_of c.args.self.now) _ _ _ _ _ history mark w c.args.packet.now labels (omega (arith, count, c.requires.in_range))
    (ap (λ (b : Bool). is_selected c.args.self.now.pids false (pid_of c.args.packet.now) && b) (pcr_none c.args.packet.now (sym c.in-None.ensures.value)) ∙ and-false _)
