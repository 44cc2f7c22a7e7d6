use Rattle.std.proofs.Common.{◌++◌, ◌∷◌, [], ◌∙◌, refl}
use Rattle.std.proofs.lemmas.Result.{on_ok_weaker}
use Rattle.ts_packet.specs.Cells.{Live}
use Rattle.monitor_keys.specs.Named.{begun_at}
use Rattle.monitor_rows.specs.KeyRows.{key_of}
use Rattle.monitor_rows.proofs.Rowing.{met_at, told_at}
use Rattle.monitor_rows.proofs.key_row.KeyRow.meet_at.Goals as goal

pub returns-clause-stands : goal.returns-clause-stands
returns-clause-stands c = λ rule history cells packet labels d span_is occurring w.
    met_at rule history (history ++ Live packet labels ∷ []) cells c.args.self.now.keys.items c.args.i c.index.result.now c.meet-gap.new.self d
    c.requires c.index.ensures w
    (λ is. c.meet-gap.ensures.stands (begun_at (key_of rule c.index.result.now.number) c.index.result.now.key.from) history packet labels is span_is
    (c.has_number-occurs.ensures ∙ occurring c.index.result.now.number) refl)

pub returns-clause-told : goal.returns-clause-told
returns-clause-told c = on_ok_weaker c.tell.result (λ tells rule history packet labels d span_is occurring w.
    tells
    ∙ told_at rule history packet labels c.args.self.now.keys.items c.args.i c.index.result.now d c.meet-gap.result c.args.told.now.items
    c.requires c.index.ensures w
    (λ is. c.meet-gap.ensures.tells (begun_at (key_of rule c.index.result.now.number) c.index.result.now.key.from) history packet is span_is
    (c.has_number-occurs.ensures ∙ occurring c.index.result.now.number) refl)) c.tell.ensures
