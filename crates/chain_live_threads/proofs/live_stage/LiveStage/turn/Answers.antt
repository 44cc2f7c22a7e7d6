use Rattle.std.proofs.Common.{◌≡◌, Option, None, Some, true, false, sym, ◌∙◌, subst, refl}
use Rattle.std.specs.Prelude.{is_some, IsSome}
use Rattle.stage_run.specs.Seeing.{seeing}
use Rattle.window_ring.specs.Seats.{table_of, Went, HasVisited}
use Rattle.window_ring.specs.declared.visited.Visited.TheVariants.{Busy}
use Rattle.chain_threads.specs.Standing.{key_at}
use Rattle.chain_threads.proofs.TurnLemmas.{may-work, work-written, work-in_hand, work-in_range, work-fits}
use Rattle.chain_live_threads.proofs.ServeLemmas.{ready-standing, may-visit, keeps-of, standing-of, after-held, after-end, after-work}
use Rattle.chain_live_threads.proofs.live_stage.LiveStage.turn.Goals as goal

still-open : {X : Type 0} (o : Option X) → is_some o ≡ false → o ≡ None
still-open None no_ = refl
still-open (Some x) no_ = cc

is-there : {X : Type 0} (o : Option X) → is_some o ≡ true → IsSome o
is-there None no_ = cc
is-there (Some x) yes_ = refl

pub visit-requires : goal.visit-requires
visit-requires g c = may-visit (seeing g.S.Source.seen g.K.Sink.seen g.P.Plugin.rule g.P.Plugin.stands_for g.P.Plugin.preallocated) c.args.ring.now c.args.self.now c.requires.goes_on c.requires.ready

pub returns-in-Busy : goal.returns-in-Busy
returns-in-Busy g c =
    let see = (seeing g.S.Source.seen g.K.Sink.seen g.P.Plugin.rule g.P.Plugin.stands_for g.P.Plugin.preallocated) in
    let laws = c.run_laws.ensures in let ring = c.args.ring.now in let table = table_of ring in let me = c.args.self.now in
    let old = me.seat in let new = c.visit.new.seat in
    record {
      keeps = keeps-of see ring me _ c.in-Busy.ensures.same_stage (λ begun base eq s.
          let found = subst (λ key. HasVisited key old new me.done me.word (Busy c.in-Busy.holder)) eq c.in-Busy.ensures.visited in
          after-held see begun base table laws old me.part me.done me.word me.over me.written c.requires.goes_on (standing-of see begun base table me c.requires.goes_on s) s.1.knows
          new c.in-Busy.holder found.0 found.1 c.in-Busy.ensures.same_stage c.in-Busy.ensures.of_table);
    }

pub returns-then-is_some : goal.returns-then-is_some
returns-then-is_some g c =
    let see = (seeing g.S.Source.seen g.K.Sink.seen g.P.Plugin.rule g.P.Plugin.stands_for g.P.Plugin.preallocated) in
    let laws = c.run_laws.ensures in let ring = c.args.ring.now in let table = table_of ring in let me = c.args.self.now in
    let old = me.seat in let new = c.visit.new.seat in
    record {
      keeps = keeps-of see ring me _ c.in-Given.ensures.same_stage (λ begun base eq s.
          let went : Went (key_at begun base) old new me.done me.word c.in-Given.news = subst (λ key. Went key old new me.done me.word c.in-Given.news) eq c.in-Given.ensures.visited in
          after-end see begun base table laws old me.part me.done me.word me.over me.written c.requires.goes_on (standing-of see begun base table me c.requires.goes_on s) s.1.knows
          new c.in-Given.news went c.in-Given.ensures.same_stage c.in-Given.ensures.of_table (is-there me.word.ended (sym c.is_some.ensures ∙ c.if-is_some.true)));
    }

pub returns-else-is_some : goal.returns-else-is_some
returns-else-is_some g c =
    let see = (seeing g.S.Source.seen g.K.Sink.seen g.P.Plugin.rule g.P.Plugin.stands_for g.P.Plugin.preallocated) in
    let laws = c.run_laws.ensures in let ring = c.args.ring.now in let table = table_of ring in let me = c.args.self.now in
    let old = me.seat in let new = c.visit.new.seat in let w = c.work_in_hand-empty in
    record {
      keeps = keeps-of see ring me _ (w.ensures.stage ∙ c.in-Given.ensures.same_stage) (λ begun base eq s.
          let went : Went (key_at begun base) old new me.done me.word c.in-Given.news = subst (λ key. Went key old new me.done me.word c.in-Given.news) eq c.in-Given.ensures.visited in
          after-work see begun base table laws old me.part me.done me.word me.over me.written c.requires.goes_on (standing-of see begun base table me c.requires.goes_on s) s.1.knows
          new c.in-Given.news went c.in-Given.ensures.same_stage c.in-Given.ensures.of_table (still-open me.word.ended (sym c.is_some.ensures ∙ c.if-is_some.false))
          w.new.seat w.new.part w.result.work w.ensures.works w.ensures.seat w.ensures.stage);
    }

pub work_in_hand-empty-requires-clause-stands : goal.work_in_hand-empty-requires-clause-stands
work_in_hand-empty-requires-clause-stands g c κs within =
    let see = (seeing g.S.Source.seen g.K.Sink.seen g.P.Plugin.rule g.P.Plugin.stands_for g.P.Plugin.preallocated) in
    let laws = c.run_laws.ensures in let ring = c.args.ring.now in let table = table_of ring in let me = c.args.self.now in
    let old = me.seat in let new = c.visit.new.seat in
    let r = ready-standing see ring me c.requires.goes_on c.requires.ready in
    let went : Went (key_at r.0 r.1) old new me.done me.word c.in-Given.news = subst (λ key. Went key old new me.done me.word c.in-Given.news) r.2 c.in-Given.ensures.visited in
    may-work see r.0 laws r.1 table old new me.part me.done me.word r.3 c.in-Given.news went c.in-Given.ensures.same_stage c.in-Given.ensures.of_table (still-open me.word.ended (sym c.is_some.ensures ∙ c.if-is_some.false))

pub work_in_hand-empty-requires-clause-written : goal.work_in_hand-empty-requires-clause-written
work_in_hand-empty-requires-clause-written g c κs within =
    let see = (seeing g.S.Source.seen g.K.Sink.seen g.P.Plugin.rule g.P.Plugin.stands_for g.P.Plugin.preallocated) in
    let laws = c.run_laws.ensures in let ring = c.args.ring.now in let table = table_of ring in let me = c.args.self.now in
    let old = me.seat in let new = c.visit.new.seat in
    let r = ready-standing see ring me c.requires.goes_on c.requires.ready in
    let went : Went (key_at r.0 r.1) old new me.done me.word c.in-Given.news = subst (λ key. Went key old new me.done me.word c.in-Given.news) r.2 c.in-Given.ensures.visited in
    work-written see r.0 laws r.1 table old new me.part me.done me.word r.3 c.in-Given.news went c.in-Given.ensures.same_stage c.in-Given.ensures.of_table (still-open me.word.ended (sym c.is_some.ensures ∙ c.if-is_some.false))

pub work_in_hand-empty-requires-clause-in_hand : goal.work_in_hand-empty-requires-clause-in_hand
work_in_hand-empty-requires-clause-in_hand g c κs within =
    let see = (seeing g.S.Source.seen g.K.Sink.seen g.P.Plugin.rule g.P.Plugin.stands_for g.P.Plugin.preallocated) in
    let laws = c.run_laws.ensures in let ring = c.args.ring.now in let table = table_of ring in let me = c.args.self.now in
    let old = me.seat in let new = c.visit.new.seat in
    let r = ready-standing see ring me c.requires.goes_on c.requires.ready in
    let went : Went (key_at r.0 r.1) old new me.done me.word c.in-Given.news = subst (λ key. Went key old new me.done me.word c.in-Given.news) r.2 c.in-Given.ensures.visited in
    work-in_hand see r.0 laws r.1 table old new me.part me.done me.word r.3 c.in-Given.news went c.in-Given.ensures.same_stage c.in-Given.ensures.of_table (still-open me.word.ended (sym c.is_some.ensures ∙ c.if-is_some.false))

pub work_in_hand-empty-requires-clause-in_range : goal.work_in_hand-empty-requires-clause-in_range
work_in_hand-empty-requires-clause-in_range g c κs within =
    let see = (seeing g.S.Source.seen g.K.Sink.seen g.P.Plugin.rule g.P.Plugin.stands_for g.P.Plugin.preallocated) in
    let laws = c.run_laws.ensures in let ring = c.args.ring.now in let table = table_of ring in let me = c.args.self.now in
    let old = me.seat in let new = c.visit.new.seat in
    let r = ready-standing see ring me c.requires.goes_on c.requires.ready in
    let went : Went (key_at r.0 r.1) old new me.done me.word c.in-Given.news = subst (λ key. Went key old new me.done me.word c.in-Given.news) r.2 c.in-Given.ensures.visited in
    work-in_range see r.0 laws r.1 table old new me.part me.done me.word r.3 c.in-Given.news went c.in-Given.ensures.same_stage c.in-Given.ensures.of_table (still-open me.word.ended (sym c.is_some.ensures ∙ c.if-is_some.false))

pub work_in_hand-empty-requires-clause-fits : goal.work_in_hand-empty-requires-clause-fits
work_in_hand-empty-requires-clause-fits g c κs within =
    let see = (seeing g.S.Source.seen g.K.Sink.seen g.P.Plugin.rule g.P.Plugin.stands_for g.P.Plugin.preallocated) in
    let laws = c.run_laws.ensures in let ring = c.args.ring.now in let table = table_of ring in let me = c.args.self.now in
    let old = me.seat in let new = c.visit.new.seat in
    let r = ready-standing see ring me c.requires.goes_on c.requires.ready in
    let went : Went (key_at r.0 r.1) old new me.done me.word c.in-Given.news = subst (λ key. Went key old new me.done me.word c.in-Given.news) r.2 c.in-Given.ensures.visited in
    work-fits see r.0 laws r.1 table old new me.part me.done me.word r.3 c.in-Given.news went c.in-Given.ensures.same_stage c.in-Given.ensures.of_table (still-open me.word.ended (sym c.is_some.ensures ∙ c.if-is_some.false))
