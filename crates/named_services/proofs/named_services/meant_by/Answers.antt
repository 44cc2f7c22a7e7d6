use Rattle.std.proofs.Common.{◌∙◌}
use Rattle.named_services.proofs.NameLemmas.{meant-by}
use Rattle.named_services.proofs.SdtLemmas.{in-force}
use Rattle.named_services.proofs.named_services.meant_by.Goals as goal

pub returns : goal.returns
returns c = λ fed w forced named.
    meant-by c.args.words.now _ fed _ named (c.in_force-sdt.ensures fed w ∙ in-force fed _ (c.stream_in_force.ensures fed forced))
    c.in_ok-services.ensures c.is_missing.ensures
