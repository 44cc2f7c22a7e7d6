use Rattle.std.proofs.Common.{ap, ◌∙◌}
use Rattle.std.specs.Prelude.{option_map}
use Rattle.ts_psi.specs.CatTables.{cat_held}
use Rattle.plug_psi.specs.InForce.{pat_of, pmt_of}
use Rattle.plug_psi.specs.Referred.{named_in, named_pids}
use Rattle.plug_psi.proofs.FlagLemmas.{flags-as}
use Rattle.plug_psi.proofs.NamedLemmas.{told-named}
use Rattle.plug_psi.proofs.referred.renew.Goals as goal

pub returns : goal.returns
returns c = λ fed f h.
    let are = c.deref.ensures.value ∙ c.in_ok-pids.ensures fed f
    ∙ ap (λ cat. named_pids (pat_of fed) (λ service. pmt_of service fed) (option_map cat_held cat)) c.as_ref.ensures.value in
    flags-as c.tell.new.flags _ (named_in fed) (told-named c.args.one.now fed c.deref.result.now h are) c.tell.ensures
