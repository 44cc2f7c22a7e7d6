use Rattle.std.proofs.Common.{arith}
use Rattle.plug_pcr.specs.PcrverifyConfOf.{conf_of}
use Rattle.plug_pcr.proofs.Verifying.{verifies_dropped}
use Rattle.plug_pcr.proofs.pcrverify.PcrverifyPlugin.pass_over.Goals as goal

pub returns-clause-meets : goal.returns-clause-meets
returns-clause-meets c = λ history mark w count.
    verifies_dropped (conf_of c.args.self.now) _ _ _ _ _ history mark w (omega (arith, count, c.requires.in_range))
