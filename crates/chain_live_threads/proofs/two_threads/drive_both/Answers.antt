use Rattle.std.proofs.Common.{◌≡◌, ◌+◌, List, length, rules, subst, sym}
use denote.Exit.{no}
use denote.Param.Send.{param_send, arg_send}
use Rattle.stage_run.specs.Seeing.{seeing}
use Rattle.chain_tells.specs.Printing.{PrintsLines}
use Rattle.chain_live_threads.specs.declared.telling.Telling.{Telling}
use Rattle.chain_live_threads.specs.Rows.{AreReady}
use Rattle.chain_live_threads.specs.RowWent.{RowReady}
use Rattle.chain_live_threads.proofs.WentLemmas.{went-by}
use Rattle.chain_live_threads.proofs.two_threads.drive_both.Goals as goal

pub on_both-requires-clause-front : goal.on_both-requires-clause-front
on_both-requires-clause-front g c κs within = λ p is.
    let see = seeing g.S.Source.seen g.K.Sink.seen g.P.Plugin.rule g.P.Plugin.stands_for g.P.Plugin.preallocated in
    let ready : AreReady see c.args.ring.now p.now = subst (AreReady see c.args.ring.now) (sym is) c.requires.input in
    ((search rules, search rules, subst (λ (l : List _). length l ≡ 1) (sym is) c.requires.one, ready), (param_send 1 _ (arg_send _ no _ c.type_bounds.send-S), param_send 2 _ (arg_send _ no _ c.type_bounds.send-K), param_send 3 _ (arg_send _ no _ c.type_bounds.send-P), search rules, search rules))

pub on_both-requires-clause-back : goal.on_both-requires-clause-back
on_both-requires-clause-back g c κs within = λ p q r is_row is_telling is_desk.
    let see = seeing g.S.Source.seen g.K.Sink.seen g.P.Plugin.rule g.P.Plugin.stands_for g.P.Plugin.preallocated in
    let ready : RowReady see c.args.ring.now q.now.told p.now =
    subst (λ (t : Telling). RowReady see c.args.ring.now t.told p.now) (sym is_telling) (subst (RowReady see c.args.ring.now c.args.telling.now.told) (sym is_row) c.requires.ready) in
    let rows : length q.now.lines.rows.items + 1 ≡ length p.now =
    subst (λ (t : Telling). length t.lines.rows.items + 1 ≡ length p.now) (sym is_telling) (subst (λ (l : List _). length c.args.telling.now.lines.rows.items + 1 ≡ length l) (sym is_row) c.requires.rows) in
    ((ready, rows), (param_send 1 _ (arg_send _ no _ c.type_bounds.send-S), param_send 2 _ (arg_send _ no _ c.type_bounds.send-K), param_send 3 _ (arg_send _ no _ c.type_bounds.send-P), param_send 7 _ (arg_send _ no _ c.type_bounds.send-D-In), param_send 8 _ (arg_send _ no _ c.type_bounds.send-D-Out), search rules, search rules))

pub returns-clause-went : goal.returns-clause-went
returns-clause-went g c =
    let back = c.on_both.ensures.back in
    went-by (seeing g.S.Source.seen g.K.Sink.seen g.P.Plugin.rule g.P.Plugin.stands_for g.P.Plugin.preallocated) c.args.ring.now (PrintsLines g.D.Desk.seen (g.L.LineTexts.text_of c.args.texts.now))
    back.first.now c.args.row.now back.first_is back.first_after.now c.on_both.new.rest back.first_left back.second.now c.args.telling.now back.second_is back.second_after.now c.on_both.new.y back.second_left
    back.third.now c.args.desk.now back.third_is back.third_after.now c.on_both.new.z back.third_left back.call.0
