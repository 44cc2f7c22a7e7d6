use Rattle.plug_service.proofs.PresentLemmas.{same-all}
use Rattle.plug_service.proofs.present.Present.is_same.Goals as goal

pub returns : goal.returns
returns c = λ same.
    same-all c.args.self.now c.args.other.now (c.same_way.ensures c.if-not-same_way.false) (c.same_services.ensures same)
    (c.same_flag.ensures c.if-not-same_flag.false) (c.same_stream.ensures c.if-not-same_stream.false)
