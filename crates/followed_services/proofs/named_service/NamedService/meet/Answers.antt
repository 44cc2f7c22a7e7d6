use Rattle.std.proofs.Common.{[], ◌∷◌, ◌++◌}
use Rattle.followed_services.proofs.NumberLemmas.{meets-number, means-number, number-same}
use Rattle.followed_services.proofs.named_service.NamedService.meet.Goals as goal

pub returns-in-None-clause-stands : goal.returns-in-None-clause-stands
returns-in-None-clause-stands c = λ word met h. meets-number word c.args.self.now met c.args.packet.now h c.in-None.is

pub returns-in-None-clause-same : goal.returns-in-None-clause-same
returns-in-None-clause-same c = λ none word met h.
    number-same word (means-number word c.args.self.now met c.args.packet.now h c.in-None.is) (met ++ c.args.packet.now ∷ []) met
