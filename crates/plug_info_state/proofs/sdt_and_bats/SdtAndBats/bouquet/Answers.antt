use Rattle.std.proofs.Common.{◌∙◌}
use Rattle.plug_info_state.proofs.sdt_and_bats.SdtAndBats.bouquet.Goals as goal

pub returns : goal.returns
returns c = λ fed w. c.of.ensures ∙ w.bouquets c.args.id
