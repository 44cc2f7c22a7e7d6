use Rattle.std.proofs.Common.{[], IfOk, sym, subst}
use Rattle.plugin_trait.proofs.FindLemmas.{find-first}
use Rattle.plug_psi.specs.ForceStands as forcing
use Rattle.plug_rename.specs.RenameState.{EditorsStand, IsPlace}
use Rattle.plug_rename.proofs.StepLemmas.{no-pat}
use Rattle.plug_rename.proofs.rename_steps.RenameSteps.new.Goals as goal

pub returns-clause-fresh : goal.returns-clause-fresh
returns-clause-fresh c =
    let same = sym c.in_ok-own.ensures in (
      λ works goes_on. record {
        forced = subst (λ force. forcing.StandsFor force []) (sym c.in_ok-force-2.ensures.first) c.in_ok-force.ensures;
        placed = subst (IsPlace c.in_ok-own.own c.none.result) (sym no-pat) (c.none.ensures c.in_ok-own.own);
        edited = subst (λ conf. EditorsStand conf c.in_ok-force-2.editors []) same
            (subst (λ r. IfOk r (λ e. EditorsStand c.args.conf.now e [])) c.in_ok-force-2.ensures.second c.new-editors.ensures);
      },
      find-first _ _ c.none-2.ensures,
    )
