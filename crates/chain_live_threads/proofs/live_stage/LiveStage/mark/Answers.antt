use Rattle.std.proofs.Common.{◌≡◌, Result, Ok, Err, IfOk, is_ok, Bool, true, if◌then◌else◌, refl, ap}
use Rattle.stage_run.specs.Seeing.{seeing}
use Rattle.stage_run.specs.PartLists.{marked_by}
use Rattle.chain_live_threads.proofs.NoteLemmas.{kind-is, allows-note, after-note}
use Rattle.chain_live_threads.proofs.live_stage.LiveStage.mark.Goals as goal

if-ok : {T E : Type 0} (r : Result T E) (P : Type 0) → (is_ok r ≡ true → P) → IfOk r (λ _. P)
if-ok (Ok x) P p = p refl
if-ok (Err e) P p = tt

pub note-requires-clause-kind : goal.note-requires-clause-kind
note-requires-clause-kind g c =
    let see = (seeing g.S.Source.seen g.K.Sink.seen g.P.Plugin.rule g.P.Plugin.stands_for g.P.Plugin.preallocated) in let r = c.requires.plugin in
    kind-is see c.run_laws.ensures r.0 r.1 r.2 r.3 c.args.self.now r.4 r.5.0 r.5.1

pub note-requires-clause-allows : goal.note-requires-clause-allows
note-requires-clause-allows g c =
    let see = (seeing g.S.Source.seen g.K.Sink.seen g.P.Plugin.rule g.P.Plugin.stands_for g.P.Plugin.preallocated) in let r = c.requires.plugin in
    allows-note see c.run_laws.ensures r.0 r.1 r.2 r.3 c.args.self.now r.4 r.5.0 r.5.1

pub returns-clause-same : goal.returns-clause-same
returns-clause-same g c = record { seat = refl; done = refl; word = refl; over = refl; written = refl }

pub returns-clause-serves : goal.returns-clause-serves
returns-clause-serves g c = λ begun base table j at s.
    let see = (seeing g.S.Source.seen g.K.Sink.seen g.P.Plugin.rule g.P.Plugin.stands_for g.P.Plugin.preallocated) in
    (marked_by s.0 c.args.self.now.written c.note.result, after-note see c.run_laws.ensures begun base table j c.args.self.now at s.0 s.1 c.note.new.self c.note.result c.note.ensures.noted)

pub returns-clause-marked : goal.returns-clause-marked
returns-clause-marked g c = λ begun base table j at s.
    let see = (seeing g.S.Source.seen g.K.Sink.seen g.P.Plugin.rule g.P.Plugin.stands_for g.P.Plugin.preallocated) in
    if-ok c.note.result _ (λ ok. record {
      lists = marked_by s.0 c.args.self.now.written c.note.result;
      serves = after-note see c.run_laws.ensures begun base table j c.args.self.now at s.0 s.1 c.note.new.self c.note.result c.note.ensures.noted;
      mark_is = ap (λ (b : Bool). if b then c.args.self.now.written else s.0.mark) ok;
    })
