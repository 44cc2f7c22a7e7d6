use Rattle.std.proofs.Common.{◌∷◌, [], List, sym, ap, ◌∙◌, append-nil, arith}
use Rattle.stage_run.specs.Seeing.{seeing}
use Rattle.stage_run.specs.declared.stage_part.StagePart.{StagePart}
use Rattle.chain_run.proofs.PartLemmas.{first-taken, none-taken}
use Rattle.chain_run.proofs.parts.+take_plugins.Goals as goal

pub returns-then-len-le1-clause-taken : goal.returns-then-len-le1-clause-taken
returns-then-len-le1-clause-taken g t c = (
  [],
  sym (append-nil c.args.plugins.now.items),
  none-taken (seeing g.S.Source.seen g.K.Sink.seen g.P.Plugin.rule g.P.Plugin.stands_for g.P.Plugin.preallocated) c.args.parts.now.items (omega arith) c.requires.kinds,
)

pub returns-clause-one_left : goal.returns-clause-one_left
returns-clause-one_left g t c = (
  c.remove.result ∷ c.take_plugins.ensures.one_left.0,
  first-taken c.args.parts.now.items c.remove.new.self.items c.remove.result (omega arith) c.remove.ensures.value c.remove.ensures.by_index.2
      ∙ ap (λ (l : List (StagePart g.row.S.Denot g.row.K.Denot g.row.P.Denot)). c.remove.result ∷ l) c.take_plugins.ensures.one_left.1,
)
