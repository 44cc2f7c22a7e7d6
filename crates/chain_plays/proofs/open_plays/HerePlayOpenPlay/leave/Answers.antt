use Rattle.std.proofs.Common.{[], inl, subst, sym}
use Rattle.ts_outside.proofs.Views.{unread-nil}
use Rattle.chain_plays.specs.Abandoned.{WasAbandoned}
use Rattle.chain_plays.proofs.open_plays.HerePlayOpenPlay.leave.Goals as goal

-- nothing was read of it
pub returns : goal.returns
returns g c = λ plan source is.
    subst (λ s. WasAbandoned (g.S.Source.seen s) (g.S.Source.seen c.args.self.source)) is ([], inl (sym (unread-nil _)))
