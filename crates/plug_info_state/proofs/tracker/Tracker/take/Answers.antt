use Rattle.std.proofs.Common.{[], ◌∷◌, ◌++◌, sym, subst}
use Rattle.plug_info_state.specs.Tracked.{Tracks}
use Rattle.plug_info_state.proofs.TrackLemmas.{tracks_dropped}
use Rattle.plug_info_state.proofs.tracker.Tracker.take.Goals as goal

pub returns-in-None : goal.returns-in-None
returns-in-None c = λ cells w count.
    subst (λ cell. Tracks c.args.self.now (cells ++ cell ∷ [])) (sym c.in-None.ensures) (tracks_dropped c.args.self.now cells w)
