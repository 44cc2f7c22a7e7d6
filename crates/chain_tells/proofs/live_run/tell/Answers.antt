use Rattle.std.proofs.Common.{suc, ap, sym, ◌∙◌}
use Rattle.chain_core.specs.CoreNumbers.{CoreNumbers, progress_of_core}
use Rattle.stage_run.specs.Seeing.{seeing}
use Rattle.chain_tells.specs.Printing.{PrintsLines}
use Rattle.chain_tells.specs.Live.{lines_of_rows}
use Rattle.chain_tells.specs.Waiting.{waiting}
use Rattle.chain_tells.proofs.LiveLemmas.{when-ok, when-err, told-late, told-nothing, told-more}
use Rattle.chain_tells.proofs.live_run.tell.Goals as goal

pub returns-then-is_err-clause-told : goal.returns-then-is_err-clause-told
returns-then-is_err-clause-told g c = λ begun plugins name_of first has.
    let see = (seeing g.S.Source.seen g.K.Sink.seen g.P.Plugin.rule g.P.Plugin.stands_for g.P.Plugin.preallocated) in
    let old = c.args.chain.now in
    let new = c.take_told.new.chain in
    told-late see begun plugins name_of (PrintsLines g.D.Desk.seen (g.L.LineTexts.text_of c.args.texts.now)) first (c.args.printing.now, c.args.desk.now) old.core old.parts.items old.cells.items has new.core new.parts.items new.cells.items
    (when-err c.take_told.result _ (sym c.is_err.ensures.value ∙ c.if-is_err.true) (c.take_told.ensures.keeps begun plugins name_of (λ _. has.w) has.w (lines_of_rows has.rows) has.tells))

pub returns-then-is_empty-clause-told : goal.returns-then-is_empty-clause-told
returns-then-is_empty-clause-told g c = λ begun plugins name_of first has.
    let see = (seeing g.S.Source.seen g.K.Sink.seen g.P.Plugin.rule g.P.Plugin.stands_for g.P.Plugin.preallocated) in
    let old = c.args.chain.now in
    let new = c.take_told.new.chain in
    let written = (progress_of_core old.core (suc begun.plan.plugins)).given in
    told-nothing see begun plugins name_of (PrintsLines g.D.Desk.seen (g.L.LineTexts.text_of c.args.texts.now)) first (c.args.printing.now, c.args.desk.now) old.core old.parts.items old.cells.items has new.core new.parts.items new.cells.items
    written (sym (ap (λ (core : CoreNumbers). (progress_of_core core (suc begun.plan.plugins)).given) c.take_told.ensures.core)) (waiting c.take_told.new.lines)
    (when-ok c.take_told.result _ (sym c.is_err.ensures.value ∙ c.if-is_err.false) (c.take_told.ensures.tells begun plugins name_of has.w (lines_of_rows has.rows) has.tells)) (c.is_empty.ensures.yes c.if-is_empty.true)

pub returns-clause-told : goal.returns-clause-told
returns-clause-told g c = λ begun plugins name_of first has.
    let see = (seeing g.S.Source.seen g.K.Sink.seen g.P.Plugin.rule g.P.Plugin.stands_for g.P.Plugin.preallocated) in
    let old = c.args.chain.now in
    let new = c.take_told.new.chain in
    let written = (progress_of_core old.core (suc begun.plan.plugins)).given in
    told-more see begun plugins name_of (PrintsLines g.D.Desk.seen (g.L.LineTexts.text_of c.args.texts.now)) first (c.args.printing.now, c.args.desk.now) old.core old.parts.items old.cells.items has new.core new.parts.items new.cells.items
    written (sym (ap (λ (core : CoreNumbers). (progress_of_core core (suc begun.plan.plugins)).given) c.take_told.ensures.core)) (waiting c.take_told.new.lines)
    (when-ok c.take_told.result _ (sym c.is_err.ensures.value ∙ c.if-is_err.false) (c.take_told.ensures.tells begun plugins name_of has.w (lines_of_rows has.rows) has.tells))
    (c.print_lines.new.printing, c.print_lines.new.desk) (c.is_empty.ensures.no c.if-is_empty.false) c.print_lines.ensures.prints
