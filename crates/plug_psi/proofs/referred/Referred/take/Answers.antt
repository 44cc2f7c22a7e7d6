use Rattle.std.proofs.Common.{sym, ◌∙◌}
use Rattle.plug_psi.proofs.Choice.{neither}
use Rattle.plug_psi.proofs.NamedLemmas.{named-same}
use Rattle.plug_psi.proofs.referred.Referred.take.Goals as goal

pub returns-clause-stands : goal.returns-clause-stands
returns-clause-stands c = λ fed h.
    let force = c.in_ok-psi_came.ensures.stands fed h.forced in
    let cat = c.in_ok-cat_came.ensures.stands fed h.cat_fed in
    record {
      working = h.working;
      forced = force;
      cat_fed = cat;
      flagged = c.in_ok-renew_where.ensures.stands fed c.args.packet.now force cat
          (λ none. let came = neither _ _ (sym c.one_holds-came.ensures ∙ none) in
          named-same fed c.args.packet.now (c.in_ok-psi_came.ensures.same came.0 fed h.forced)
          (c.in_ok-cat_came.ensures.same came.1 fed h.cat_fed))
          h.flagged;
    }
