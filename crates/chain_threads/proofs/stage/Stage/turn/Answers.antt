use Rattle.std.proofs.Common.{◌≡◌, Option, None, Some, true, false, sym, ap, ◌∙◌, subst, refl}
use Rattle.std.specs.Prelude.{is_some, IsSome}
use Rattle.stage_run.specs.Seeing.{seeing}
use Rattle.window_ring.specs.Seats.{table_of, Went, HasVisited}
use Rattle.window_ring.specs.declared.visited.Visited.TheVariants.{Busy}
use Rattle.chain_threads.specs.Standing.{key_at}
use Rattle.chain_threads.proofs.TurnLemmas.{over-now, made-now, made-later, may-work, work-written, work-in_hand, work-in_range, work-fits, stands-now, stands-still, seen-still}
use Rattle.chain_threads.proofs.AnswerLemmas.{behind-parts}
use Rattle.chain_threads.proofs.stage.Stage.turn.Goals as goal

still-open : {X : Type 0} (o : Option X) → is_some o ≡ false → o ≡ None
still-open None no_ = refl
still-open (Some x) no_ = cc

is-there : {X : Type 0} (o : Option X) → is_some o ≡ true → IsSome o
is-there None no_ = cc
is-there (Some x) yes_ = refl

pub returns-in-Busy-clause-behind : goal.returns-in-Busy-clause-behind
returns-in-Busy-clause-behind g c = λ begun base eq st.
    let see = seeing g.S.Source.seen g.K.Sink.seen g.P.Plugin.rule g.P.Plugin.stands_for g.P.Plugin.preallocated in
    let laws = c.run_laws.ensures in let table = table_of c.args.ring.now in let me = c.args.self.now in
    let old = me.seat in let new = c.visit.new.seat in
    let found = subst (λ key. HasVisited key old new me.done me.word (Busy c.in-Busy.holder)) eq c.in-Busy.ensures.visited in (
      stands-still see begun laws base table old new c.in-Busy.holder found.0 found.1 c.in-Busy.ensures.same_stage c.in-Busy.ensures.of_table me.part me.done me.word st,
      record {
        holder = c.in-Busy.holder;
        another = found.2;
        remembers = ap (λ me. me.0.busy) found.0;
        seen = seen-still see begun laws base table old new c.in-Busy.holder found.0 found.1 c.in-Busy.ensures.same_stage c.in-Busy.ensures.of_table me.part me.done me.word st;
        hand = found.1;
        part = refl;
        done = refl;
        word = refl;
      },
    )

pub returns-then-is_some-clause-behind : goal.returns-then-is_some-clause-behind
returns-then-is_some-clause-behind g c = λ begun base eq st.
    let see = seeing g.S.Source.seen g.K.Sink.seen g.P.Plugin.rule g.P.Plugin.stands_for g.P.Plugin.preallocated in
    let laws = c.run_laws.ensures in let table = table_of c.args.ring.now in let me = c.args.self.now in
    let old = me.seat in let new = c.visit.new.seat in
    let went : Went (key_at begun base) old new me.done me.word c.in-Given.news = subst (λ key. Went key old new me.done me.word c.in-Given.news) eq c.in-Given.ensures.visited in (
      over-now see begun laws base table old new me.part me.done me.word st c.in-Given.news went c.in-Given.ensures.same_stage c.in-Given.ensures.of_table (is-there me.word.ended (sym c.is_some.ensures ∙ c.if-is_some.true)),
      made-now see begun laws base table old new me.part me.done me.word st c.in-Given.news went,
    )

pub work_in_hand-empty-requires-clause-stands : goal.work_in_hand-empty-requires-clause-stands
work_in_hand-empty-requires-clause-stands g c κs within =
    let begun = c.requires.0 in let base = c.requires.1 in let st = c.requires.3 in
    let see = seeing g.S.Source.seen g.K.Sink.seen g.P.Plugin.rule g.P.Plugin.stands_for g.P.Plugin.preallocated in
    let laws = c.run_laws.ensures in let table = table_of c.args.ring.now in let me = c.args.self.now in
    let old = me.seat in let new = c.visit.new.seat in
    let went : Went (key_at begun base) old new me.done me.word c.in-Given.news = subst (λ key. Went key old new me.done me.word c.in-Given.news) c.requires.2 c.in-Given.ensures.visited in
    may-work see begun laws base table old new me.part me.done me.word st c.in-Given.news went c.in-Given.ensures.same_stage c.in-Given.ensures.of_table (still-open me.word.ended (sym c.is_some.ensures ∙ c.if-is_some.false))

pub work_in_hand-empty-requires-clause-written : goal.work_in_hand-empty-requires-clause-written
work_in_hand-empty-requires-clause-written g c κs within =
    let begun = c.requires.0 in let base = c.requires.1 in let st = c.requires.3 in
    let see = seeing g.S.Source.seen g.K.Sink.seen g.P.Plugin.rule g.P.Plugin.stands_for g.P.Plugin.preallocated in
    let laws = c.run_laws.ensures in let table = table_of c.args.ring.now in let me = c.args.self.now in
    let old = me.seat in let new = c.visit.new.seat in
    let went : Went (key_at begun base) old new me.done me.word c.in-Given.news = subst (λ key. Went key old new me.done me.word c.in-Given.news) c.requires.2 c.in-Given.ensures.visited in
    work-written see begun laws base table old new me.part me.done me.word st c.in-Given.news went c.in-Given.ensures.same_stage c.in-Given.ensures.of_table (still-open me.word.ended (sym c.is_some.ensures ∙ c.if-is_some.false))

pub work_in_hand-empty-requires-clause-in_hand : goal.work_in_hand-empty-requires-clause-in_hand
work_in_hand-empty-requires-clause-in_hand g c κs within =
    let begun = c.requires.0 in let base = c.requires.1 in let st = c.requires.3 in
    let see = seeing g.S.Source.seen g.K.Sink.seen g.P.Plugin.rule g.P.Plugin.stands_for g.P.Plugin.preallocated in
    let laws = c.run_laws.ensures in let table = table_of c.args.ring.now in let me = c.args.self.now in
    let old = me.seat in let new = c.visit.new.seat in
    let went : Went (key_at begun base) old new me.done me.word c.in-Given.news = subst (λ key. Went key old new me.done me.word c.in-Given.news) c.requires.2 c.in-Given.ensures.visited in
    work-in_hand see begun laws base table old new me.part me.done me.word st c.in-Given.news went c.in-Given.ensures.same_stage c.in-Given.ensures.of_table (still-open me.word.ended (sym c.is_some.ensures ∙ c.if-is_some.false))

pub work_in_hand-empty-requires-clause-in_range : goal.work_in_hand-empty-requires-clause-in_range
work_in_hand-empty-requires-clause-in_range g c κs within =
    let begun = c.requires.0 in let base = c.requires.1 in let st = c.requires.3 in
    let see = seeing g.S.Source.seen g.K.Sink.seen g.P.Plugin.rule g.P.Plugin.stands_for g.P.Plugin.preallocated in
    let laws = c.run_laws.ensures in let table = table_of c.args.ring.now in let me = c.args.self.now in
    let old = me.seat in let new = c.visit.new.seat in
    let went : Went (key_at begun base) old new me.done me.word c.in-Given.news = subst (λ key. Went key old new me.done me.word c.in-Given.news) c.requires.2 c.in-Given.ensures.visited in
    work-in_range see begun laws base table old new me.part me.done me.word st c.in-Given.news went c.in-Given.ensures.same_stage c.in-Given.ensures.of_table (still-open me.word.ended (sym c.is_some.ensures ∙ c.if-is_some.false))

pub work_in_hand-empty-requires-clause-fits : goal.work_in_hand-empty-requires-clause-fits
work_in_hand-empty-requires-clause-fits g c κs within =
    let begun = c.requires.0 in let base = c.requires.1 in let st = c.requires.3 in
    let see = seeing g.S.Source.seen g.K.Sink.seen g.P.Plugin.rule g.P.Plugin.stands_for g.P.Plugin.preallocated in
    let laws = c.run_laws.ensures in let table = table_of c.args.ring.now in let me = c.args.self.now in
    let old = me.seat in let new = c.visit.new.seat in
    let went : Went (key_at begun base) old new me.done me.word c.in-Given.news = subst (λ key. Went key old new me.done me.word c.in-Given.news) c.requires.2 c.in-Given.ensures.visited in
    work-fits see begun laws base table old new me.part me.done me.word st c.in-Given.news went c.in-Given.ensures.same_stage c.in-Given.ensures.of_table (still-open me.word.ended (sym c.is_some.ensures ∙ c.if-is_some.false))

pub returns-else-is_some-clause-behind : goal.returns-else-is_some-clause-behind
returns-else-is_some-clause-behind g c = λ begun base eq st.
    let see = seeing g.S.Source.seen g.K.Sink.seen g.P.Plugin.rule g.P.Plugin.stands_for g.P.Plugin.preallocated in
    let laws = c.run_laws.ensures in let table = table_of c.args.ring.now in let me = c.args.self.now in
    let old = me.seat in let new = c.visit.new.seat in
    let went : Went (key_at begun base) old new me.done me.word c.in-Given.news = subst (λ key. Went key old new me.done me.word c.in-Given.news) eq c.in-Given.ensures.visited in
    let w = c.work_in_hand-empty in
    behind-parts see begun base table me w.new.seat w.new.part w.result.work.done w.result.work.word me.over c.of.result w.result.empty c.of.ensures w.ensures.empty
    (stands-now see begun laws base table old new me.part me.done me.word st c.in-Given.news went c.in-Given.ensures.same_stage c.in-Given.ensures.of_table (still-open me.word.ended (sym c.is_some.ensures ∙ c.if-is_some.false)) w.new.seat w.new.part w.result.work w.ensures.works w.ensures.seat w.ensures.stage)
    (made-later see begun laws base table old new me.part me.done me.word st c.in-Given.news went w.new.seat w.ensures.seat)
