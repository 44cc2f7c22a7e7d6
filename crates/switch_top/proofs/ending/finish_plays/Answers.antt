use Rattle.std.proofs.Common.{inl, inr}
use Rattle.switch_top.proofs.EndLemmas.{ran-of, wanted-of}
use Rattle.switch_top.proofs.ending.finish_plays.Goals as goal

pub returns-in-Over : goal.returns-in-Over
returns-in-Over g c = λ resync core inputs names start first name buffer played is same.
    inr (c.finish_over.ensures resync core inputs names start first name buffer (ran-of _ core inputs names start first (g.D.Desk.seen c.args.desk.now) c.args.played c.in-Over.over c.in-Over.is played) is same)

pub returns-in-Wants : goal.returns-in-Wants
returns-in-Wants g c = λ resync core inputs names start first name buffer played is same.
    inl (c.finish_wanting.ensures resync core inputs names start first name (wanted-of _ core inputs names start first (g.D.Desk.seen c.args.desk.now) c.args.played c.in-Wants.output c.in-Wants.is played) is)
