use Rattle.std.proofs.Common.{subst, sym}
use Rattle.plug_rename.specs.RenameState.{IsPlace}
use Rattle.plug_rename.proofs.place.place_where.Goals as goal

pub returns-then-not-came : goal.returns-then-not-came
returns-then-not-came c = λ before after forced same h. subst (IsPlace c.args.conf.now c.args.place) (sym (same c.if-not-came.true)) h

pub returns : goal.returns
returns c = λ before after forced same h. subst (IsPlace c.args.conf.now c.of.result) (c.pat.ensures after forced) c.of.ensures
