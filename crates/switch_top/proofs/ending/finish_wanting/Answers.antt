use Rattle.std.proofs.Common.{refl}
use Rattle.switch_top.proofs.EndLemmas.{switch-wanted}
use Rattle.switch_top.proofs.ending.finish_wanting.Goals as goal

pub returns : goal.returns
returns g c = λ resync core inputs names start first name w is.
    switch-wanted _ core inputs names start first name c.args.output (g.D.Desk.seen c.args.desk.now) (g.D.Desk.seen c.close_output.new.desk) _ _ refl w is c.close_output.ensures.closed
