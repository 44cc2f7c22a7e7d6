use Rattle.std.proofs.Common.{slice_index_or, slice_set, ◌≡◌, ◌+◌, ◌<◌, ◌≤◌, ◌%◌, List, length, refl, sym, subst, ap, arith, ◌∙◌}
use Rattle.std.proofs.Math.Nat.{mod-lt}
use Rattle.chain_core.specs.declared.progress.Progress.{Progress}
use Rattle.chain_core.specs.CoreNumbers.{progress_of_core}
use Rattle.stage_run.specs.Seeing.{seeing}
use Rattle.stage_run.specs.declared.stage_part.StagePart.{StagePart}
use Rattle.stage_run.specs.PartStands.{PartStands, MayWorkOnSome}
use Rattle.stage_run.specs.Works.{PartWork}
use Rattle.ts_packet.specs.declared.cell.Cell.{Cell}
use Rattle.cell_land.specs.Cells.{CellPiece}
use Rattle.chain_run.proofs.WindowLemmas.{back_long, in_a_row, put_back, stage-works}
use Rattle.chain_run.proofs.serial_chain.SerialChain.work.Goals as goal

pub work-window-requires-clause-stands : goal.work-window-requires-clause-stands
work-window-requires-clause-stands g c κs within =
    let part = c.index_mut.result.now in
    subst (λ (p : StagePart g.row.S.Denot g.row.K.Denot g.row.P.Denot). MayWorkOnSome (PartStands (seeing g.S.Source.seen g.K.Sink.seen g.P.Plugin.rule g.P.Plugin.stands_for g.P.Plugin.preallocated) p) c.progress-at.result.given c.args.news.now.written)
    (sym c.index_mut.ensures.value)
    (subst (λ (m : Progress). MayWorkOnSome (PartStands (seeing g.S.Source.seen g.K.Sink.seen g.P.Plugin.rule g.P.Plugin.stands_for g.P.Plugin.preallocated) (slice_index_or c.args.self.now.parts.items c.args.stage part)) m.given c.args.news.now.written)
    (sym c.progress-at.ensures) (c.requires.stands part))

pub lift-before-requires-clause-within : goal.lift-before-requires-clause-within
lift-before-requires-clause-within g c =
    let slots = c.len-slots.ensures in let some = c.requires.slots in
    let inside : c.progress-at.result.given % c.len-slots.result < c.len-slots.result = mod-lt c.progress-at.result.given (omega (arith, slots, some)) in omega (arith, slots, inside)

pub put_back-requires-clause-in_a_row : goal.put_back-requires-clause-in_a_row
put_back-requires-clause-in_a_row g c =
    let l = c.lift-before in let items = c.args.self.now.cells.items in let slots = c.len-slots.ensures in let some = c.requires.slots in
    let inside : c.progress-at.result.given % c.len-slots.result < c.len-slots.result = mod-lt c.progress-at.result.given (omega (arith, slots, some)) in
    in_a_row items (c.progress-at.result.given % c.len-slots.result) c.min-len.result l.result l.ensures.lifts (omega (arith, slots, inside)) c.work-window.result.1 c.work-window.ensures.slots

pub returns-clause-works : goal.returns-clause-works
returns-clause-works g c =
    let l = c.lift-before in let w = c.work-window in let items = c.args.self.now.cells.items in let start = c.progress-at.result.given % c.len-slots.result in
    let slots = c.len-slots.ensures in let some = c.requires.slots in
    let inside : start < c.len-slots.result = mod-lt c.progress-at.result.given (omega (arith, slots, some)) in
    let fits : start + c.min-len.result ≤ length items = omega (arith, slots, inside) in
    let at-is : c.progress-at.result.given ≡ (progress_of_core c.args.self.now.core c.args.stage).given = ap (λ (m : Progress). m.given) c.progress-at.ensures in
    let see = seeing g.S.Source.seen g.K.Sink.seen g.P.Plugin.rule g.P.Plugin.stands_for g.P.Plugin.preallocated in
    stage-works see items c.put_back.new.self.items
    c.args.self.now.parts.items (slice_set c.args.self.now.parts.items c.args.stage w.new.self) c.args.stage c.len-slots.result c.progress-at.result.given (progress_of_core c.args.self.now.core c.args.stage).given c.min-len.result
    w.result.1.cells c.index_mut.result.now w.new.self c.args.news.now w.result.0
    c.index_mut.ensures.value refl slots at-is
    fits (back_long items start c.min-len.result l.result l.ensures.lifts fits w.result.1 w.ensures.slots)
    (omega arith) (λ lt. omega arith)
    (c.put_back.ensures ∙ put_back items start c.min-len.result l.result l.ensures.lifts fits w.result.1 w.ensures.slots)
    (subst (λ (cells : List Cell). PartWork see c.index_mut.result.now w.new.self c.progress-at.result.given c.args.news.now cells w.result.1.cells w.result.0)
    (ap (λ (p : CellPiece). p.cells) l.ensures.lifts.window) w.ensures.work)
