use Rattle.std.proofs.Common.{◌≡◌, Option, None, Some, false, is_some, sym, ◌∙◌, arith, inl, inr, refl}
use Rattle.stage_run.specs.Seeing.{seeing}
use Rattle.chain_run.proofs.TurnWorks.{quiet-may}
use Rattle.chain_run.proofs.TurnLaws.{turn-written, turn-given, turn-taken, turn-stands, turn-may, turn-goes, turn-moves, turn-rests, turn-idle, rests-there}
use Rattle.chain_run.proofs.serial_chain.SerialChain.turn.Goals as goal

still-open : {X : Type 0} (o : Option X) → is_some o ≡ false → o ≡ None
still-open None no_ = refl
still-open (Some x) no_ = cc

pub returns-then-has_ended-clause-runs : goal.returns-then-has_ended-clause-runs
returns-then-has_ended-clause-runs g c = λ begun goes.
    let chain = c.args.self.now in
    rests-there (seeing g.S.Source.seen g.K.Sink.seen g.P.Plugin.rule g.P.Plugin.stands_for g.P.Plugin.preallocated) begun chain.core chain.parts.items chain.cells.items goes

pub look-news-requires : goal.look-news-requires
look-news-requires g c =
    let old = c.args.self.now in
    quiet-may (seeing g.S.Source.seen g.K.Sink.seen g.P.Plugin.rule g.P.Plugin.stands_for g.P.Plugin.preallocated) c.machine_laws.ensures c.requires.runs.0
    old.core old.parts.items old.cells.items c.requires.runs.1 c.args.stage c.requires.is_stage (still-open _ (sym c.has_ended.ensures ∙ c.if-has_ended.false))

pub work-work-requires-clause-written : goal.work-work-requires-clause-written
work-work-requires-clause-written g c κs within =
    let old = c.args.self.now in
    turn-written (seeing g.S.Source.seen g.K.Sink.seen g.P.Plugin.rule g.P.Plugin.stands_for g.P.Plugin.preallocated) c.machine_laws.ensures
    old.core c.look-news.new.core old.parts.items old.cells.items c.args.stage c.look-news.result
    c.requires.runs c.requires.is_stage (still-open _ (sym c.has_ended.ensures ∙ c.if-has_ended.false)) c.look-news.ensures

pub work-work-requires-clause-given : goal.work-work-requires-clause-given
work-work-requires-clause-given g c κs within =
    let old = c.args.self.now in
    turn-given (seeing g.S.Source.seen g.K.Sink.seen g.P.Plugin.rule g.P.Plugin.stands_for g.P.Plugin.preallocated) c.machine_laws.ensures
    old.core c.look-news.new.core old.parts.items old.cells.items c.args.stage c.look-news.result
    c.requires.runs c.requires.is_stage (still-open _ (sym c.has_ended.ensures ∙ c.if-has_ended.false)) c.look-news.ensures

pub work-work-requires-clause-taken : goal.work-work-requires-clause-taken
work-work-requires-clause-taken g c κs within =
    let old = c.args.self.now in
    turn-taken (seeing g.S.Source.seen g.K.Sink.seen g.P.Plugin.rule g.P.Plugin.stands_for g.P.Plugin.preallocated) c.machine_laws.ensures
    old.core c.look-news.new.core old.parts.items old.cells.items c.args.stage c.look-news.result
    c.requires.runs c.requires.is_stage (still-open _ (sym c.has_ended.ensures ∙ c.if-has_ended.false)) c.look-news.ensures

pub work-work-requires-clause-stands : goal.work-work-requires-clause-stands
work-work-requires-clause-stands g c κs within =
    let old = c.args.self.now in
    turn-stands (seeing g.S.Source.seen g.K.Sink.seen g.P.Plugin.rule g.P.Plugin.stands_for g.P.Plugin.preallocated) c.machine_laws.ensures
    old.core c.look-news.new.core old.parts.items old.cells.items c.args.stage c.look-news.result
    c.requires.runs c.requires.is_stage (still-open _ (sym c.has_ended.ensures ∙ c.if-has_ended.false)) c.look-news.ensures

pub visit-requires : goal.visit-requires
visit-requires g c =
    let old = c.args.self.now in
    turn-may (seeing g.S.Source.seen g.K.Sink.seen g.P.Plugin.rule g.P.Plugin.stands_for g.P.Plugin.preallocated) c.machine_laws.ensures
    old.core c.look-news.new.core old.parts.items old.cells.items c.args.stage c.look-news.result
    c.requires.runs c.requires.is_stage (still-open _ (sym c.has_ended.ensures ∙ c.if-has_ended.false)) c.look-news.ensures
    c.work-work.new.self.core c.work-work.ensures.core c.work-work.new.self.parts.items c.work-work.new.self.cells.items c.work-work.result c.work-work.ensures.works

pub returns-then-work-gt0-clause-runs : goal.returns-then-work-gt0-clause-runs
returns-then-work-gt0-clause-runs g c =
    let old = c.args.self.now in
    turn-goes (seeing g.S.Source.seen g.K.Sink.seen g.P.Plugin.rule g.P.Plugin.stands_for g.P.Plugin.preallocated) c.machine_laws.ensures
    old.core c.look-news.new.core old.parts.items old.cells.items c.args.stage c.look-news.result
    c.requires.runs c.requires.is_stage (still-open _ (sym c.has_ended.ensures ∙ c.if-has_ended.false)) c.look-news.ensures
    c.work-work.new.self.core c.work-work.ensures.core c.work-work.new.self.parts.items c.work-work.new.self.cells.items c.work-work.result c.work-work.ensures.works
    c.visit.new.self c.visit.ensures.plan c.visit.ensures.visited

pub returns-then-work-gt0-clause-moved : goal.returns-then-work-gt0-clause-moved
returns-then-work-gt0-clause-moved g c = λ moved.
    let old = c.args.self.now in
    turn-moves (seeing g.S.Source.seen g.K.Sink.seen g.P.Plugin.rule g.P.Plugin.stands_for g.P.Plugin.preallocated) c.machine_laws.ensures
    old.core c.look-news.new.core old.parts.items old.cells.items c.args.stage c.look-news.result
    c.requires.runs c.requires.is_stage (still-open _ (sym c.has_ended.ensures ∙ c.if-has_ended.false)) c.look-news.ensures
    c.work-work.new.self.core c.work-work.ensures.core c.work-work.new.self.parts.items c.work-work.new.self.cells.items c.work-work.result c.work-work.ensures.works
    c.visit.new.self c.visit.ensures.plan c.visit.ensures.visited (inl c.if-work-gt0.true)

pub returns-else-work-gt0-clause-runs : goal.returns-else-work-gt0-clause-runs
returns-else-work-gt0-clause-runs g c =
    let old = c.args.self.now in
    turn-goes (seeing g.S.Source.seen g.K.Sink.seen g.P.Plugin.rule g.P.Plugin.stands_for g.P.Plugin.preallocated) c.machine_laws.ensures
    old.core c.look-news.new.core old.parts.items old.cells.items c.args.stage c.look-news.result
    c.requires.runs c.requires.is_stage (still-open _ (sym c.has_ended.ensures ∙ c.if-has_ended.false)) c.look-news.ensures
    c.work-work.new.self.core c.work-work.ensures.core c.work-work.new.self.parts.items c.work-work.new.self.cells.items c.work-work.result c.work-work.ensures.works
    c.visit.new.self c.visit.ensures.plan c.visit.ensures.visited

pub returns-else-work-gt0-clause-moved : goal.returns-else-work-gt0-clause-moved
returns-else-work-gt0-clause-moved g c = λ moved.
    let old = c.args.self.now in
    turn-moves (seeing g.S.Source.seen g.K.Sink.seen g.P.Plugin.rule g.P.Plugin.stands_for g.P.Plugin.preallocated) c.machine_laws.ensures
    old.core c.look-news.new.core old.parts.items old.cells.items c.args.stage c.look-news.result
    c.requires.runs c.requires.is_stage (still-open _ (sym c.has_ended.ensures ∙ c.if-has_ended.false)) c.look-news.ensures
    c.work-work.new.self.core c.work-work.ensures.core c.work-work.new.self.parts.items c.work-work.new.self.cells.items c.work-work.result c.work-work.ensures.works
    c.visit.new.self c.visit.ensures.plan c.visit.ensures.visited (inr (sym c.is_some.ensures ∙ moved))

pub returns-else-work-gt0-clause-rests : goal.returns-else-work-gt0-clause-rests
returns-else-work-gt0-clause-rests g c = λ rests.
    let old = c.args.self.now in
    turn-rests (seeing g.S.Source.seen g.K.Sink.seen g.P.Plugin.rule g.P.Plugin.stands_for g.P.Plugin.preallocated) c.machine_laws.ensures
    old.core c.look-news.new.core old.parts.items old.cells.items c.args.stage c.look-news.result
    c.requires.runs c.requires.is_stage (still-open _ (sym c.has_ended.ensures ∙ c.if-has_ended.false)) c.look-news.ensures
    c.work-work.new.self.core c.work-work.ensures.core c.work-work.new.self.parts.items c.work-work.new.self.cells.items c.work-work.result c.work-work.ensures.works
    c.visit.new.self c.visit.ensures.plan c.visit.ensures.visited (omega arith) (still-open c.work-work.result.word.ended (sym c.is_some.ensures ∙ rests))

pub returns-else-work-gt0-clause-idle : goal.returns-else-work-gt0-clause-idle
returns-else-work-gt0-clause-idle g c = λ rests open_.
    let old = c.args.self.now in
    turn-idle (seeing g.S.Source.seen g.K.Sink.seen g.P.Plugin.rule g.P.Plugin.stands_for g.P.Plugin.preallocated) c.machine_laws.ensures
    old.core c.look-news.new.core old.parts.items old.cells.items c.args.stage c.look-news.result
    c.requires.runs c.requires.is_stage (still-open _ (sym c.has_ended.ensures ∙ c.if-has_ended.false)) c.look-news.ensures
    c.work-work.new.self.core c.work-work.ensures.core c.work-work.new.self.parts.items c.work-work.new.self.cells.items c.work-work.result c.work-work.ensures.works
    c.visit.new.self c.visit.ensures.plan c.visit.ensures.visited (omega arith) (still-open c.work-work.result.word.ended (sym c.is_some.ensures ∙ rests))
