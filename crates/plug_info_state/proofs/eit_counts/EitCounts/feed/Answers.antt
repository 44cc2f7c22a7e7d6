use Rattle.std.proofs.Common.{◌≡◌, ◌==◌, false, sym, ◌∙◌, ap, ◌++◌, ◌∷◌, []}
use Rattle.std.proofs.lemmas.Bool.{ne_eqb}
use Rattle.ts_demux.specs.SectionsOfPid.{sections_of_pid}
use Rattle.plug_info_state.proofs.EitLemmas.{counts-fed, counts-other}
use Rattle.plug_info_state.proofs.eit_counts.EitCounts.feed.Goals as goal

pub returns-then-pid-ne-EIT_PID-clause-fed : goal.returns-then-pid-ne-EIT_PID-clause-fed
returns-then-pid-ne-EIT_PID-clause-fed c =
    let other : (c.pid.result == 18) ≡ false = ne_eqb c.pid.result 18 c.if-pid-ne-EIT_PID.true in
    λ fed w. counts-other _ _ _ fed c.args.packet.now (ap (λ n. n == 18) (sym c.pid.ensures.field) ∙ other) c.other_packets_change_nothing.ensures w

pub returns-clause-fed : goal.returns-clause-fed
returns-clause-fed c = λ fed w.
    c.in_ok-count_waiting.ensures (fed ++ c.args.packet.now ∷ []) (sections_of_pid 18 fed)
    (counts-fed _ _ _ _ fed (sections_of_pid 18 fed) c.args.packet.now _ c.in_ok-feed.ensures.taken w)
