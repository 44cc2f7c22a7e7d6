use Rattle.std.proofs.Common.{◌≡◌, ◌++◌, ◌∷◌, [], drop, slice_index_or, ap, sym, ◌∙◌, subst}
use Rattle.stage_run.specs.Seeing.{seeing}
use Rattle.stage_run.specs.PartStands.{PartStands, kind_of, stream_kind, stuffing_in, an_input, a_stream}
use Rattle.window_ring.specs.Seats.{key_of, table_of}
use Rattle.window_ring.specs.Closing.{IsDone}
use Rattle.chain_threads.specs.Driving.{AreReady, Carried}
use Rattle.chain_model.specs.Stuffed.{no_stuffing}
use Rattle.chain_plays.specs.Abandoned.{WasAbandoned}
use Rattle.std.proofs.Common.{Some}
use Rattle.chain_plays.proofs.PlayLemmas.{ahead_ready}
use Rattle.chain_plays.proofs.AbandonLemmas.{ended_input, whole_of}
use Rattle.chain_plays.proofs.abandoning.abandon.Goals as goal

pub finish-requires-clause-ready : goal.finish-requires-clause-ready
finish-requires-clause-ready g c κs within =
    let see = seeing g.S.Source.seen g.K.Sink.seen g.P.Plugin.rule g.P.Plugin.stands_for g.P.Plugin.preallocated in
    subst (AreReady see c.args.ahead.ring) (sym c.deref_mut.ensures.value) (ahead_ready see c.requires.0 c.requires.1 c.args.ahead c.requires.2)

pub close-requires-clause-whole : goal.close-requires-clause-whole
close-requires-clause-whole g c =
    let see = seeing g.S.Source.seen g.K.Sink.seen g.P.Plugin.rule g.P.Plugin.stands_for g.P.Plugin.preallocated in
    let p = c.args.ahead in
    let a = c.requires.2 in
    let carried = subst (λ l. Carried see p.ring l c.finish.new.stages) c.deref_mut.ensures.value c.finish.ensures.carried in
    let over = ended_input see c.requires.0 c.requires.1 p c.finish.new.stages a carried c.finish.ensures.ended in
    let is : c.remove.result ≡ over.stage = c.remove.ensures.value ∙ ap (λ l. slice_index_or l 0 c.remove.result) over.new_is in
    let first : c.into_parts-part.result.1 ≡ over.stage.seat = c.into_parts-part.ensures.seat ∙ ap (λ s. s.seat) is in
    let second : c.remove-output.result ≡ a.seat = c.remove-output.ensures.value ∙ ap (λ l. slice_index_or l 0 c.remove-output.result) a.one_seat in
    let none : c.remove-output.new.self.items ≡ [] = c.remove-output.ensures.items ∙ ap (λ l. drop 1 l) a.one_seat in
    let one : c.push_reserved.new.self.items ≡ over.stage.seat ∷ [] = c.push_reserved.ensures.items ∙ ap (λ l. l ++ c.into_parts-part.result.1 ∷ []) none ∙ ap (λ s. s ∷ []) first in
    let both : c.push_reserved-2.new.self.items ≡ over.stage.seat ∷ c.stop.new.seat ∷ [] = c.push_reserved-2.ensures.items ∙ ap (λ l. l ++ c.stop.new.seat ∷ []) one in
    whole_of c.requires.0 p.ring a.ring c.push_reserved-2.new.self.items over.stage.seat c.stop.new.seat both over.done
    (subst (λ k. IsDone (key_of p.ring) (table_of p.ring) k c.stop.new.seat) (ap (λ s. s.stage) second ∙ a.fresh.stage) c.stop.ensures)

pub source_of-requires-clause-input : goal.source_of-requires-clause-input
source_of-requires-clause-input g c =
    let see = seeing g.S.Source.seen g.K.Sink.seen g.P.Plugin.rule g.P.Plugin.stands_for g.P.Plugin.preallocated in
    let p = c.args.ahead in
    let a = c.requires.2 in
    let carried = subst (λ l. Carried see p.ring l c.finish.new.stages) c.deref_mut.ensures.value c.finish.ensures.carried in
    let over = ended_input see c.requires.0 c.requires.1 p c.finish.new.stages a carried c.finish.ensures.ended in
    let is : c.remove.result ≡ over.stage = c.remove.ensures.value ∙ ap (λ l. slice_index_or l 0 c.remove.result) over.new_is in
    subst (λ q. kind_of q ≡ an_input) (sym (c.into_parts-part.ensures.part ∙ ap (λ s. s.part) is)) over.kind

pub source_of-requires-clause-stream : goal.source_of-requires-clause-stream
source_of-requires-clause-stream g c =
    let see = seeing g.S.Source.seen g.K.Sink.seen g.P.Plugin.rule g.P.Plugin.stands_for g.P.Plugin.preallocated in
    let p = c.args.ahead in
    let a = c.requires.2 in
    let carried = subst (λ l. Carried see p.ring l c.finish.new.stages) c.deref_mut.ensures.value c.finish.ensures.carried in
    let over = ended_input see c.requires.0 c.requires.1 p c.finish.new.stages a carried c.finish.ensures.ended in
    let is : c.remove.result ≡ over.stage = c.remove.ensures.value ∙ ap (λ l. slice_index_or l 0 c.remove.result) over.new_is in
    subst (λ q. stream_kind q ≡ a_stream) (sym (c.into_parts-part.ensures.part ∙ ap (λ s. s.part) is)) over.stream

pub returns : goal.returns
returns g c = λ plan source a.
    let see = seeing g.S.Source.seen g.K.Sink.seen g.P.Plugin.rule g.P.Plugin.stands_for g.P.Plugin.preallocated in
    let p = c.args.ahead in
    let carried = subst (λ l. Carried see p.ring l c.finish.new.stages) c.deref_mut.ensures.value c.finish.ensures.carried in
    let over = ended_input see plan source p c.finish.new.stages a carried c.finish.ensures.ended in
    let is : c.remove.result ≡ over.stage = c.remove.ensures.value ∙ ap (λ l. slice_index_or l 0 c.remove.result) over.new_is in
    let part = sym (c.into_parts-part.ensures.part ∙ ap (λ s. s.part) is) in
    subst (λ v. WasAbandoned v (g.S.Source.seen c.source_of.result)) over.source_is
    (c.source_of.ensures over.lists over.told (subst (λ q. PartStands see q over.lists over.told) part over.stands) (subst (λ q. stuffing_in q ≡ Some no_stuffing) part over.stuffing))
