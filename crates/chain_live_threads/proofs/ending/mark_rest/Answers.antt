use Rattle.std.proofs.Common.{◌≡◌, Result, Ok, Err, IfOk, is_ok, true, refl}
use Rattle.chain_live_threads.proofs.RestLemmas.{allows, noted, noted-mark}
use Rattle.chain_live_threads.proofs.ending.mark_rest.Goals as goal

if-ok : {T E : Type 0} (r : Result T E) (P : Type 0) → (is_ok r ≡ true → P) → IfOk r (λ _. P)
if-ok (Ok x) P p = p refl
if-ok (Err e) P p = tt

pub note-requires : goal.note-requires
note-requires g c = allows g.P.Plugin.rule g.P.Plugin.stands_for c.requires.met.2 c.args.cut c.requires.met.1 c.requires.met.0 c.args.heard.now c.requires.met.3

pub returns-clause-keeps : goal.returns-clause-keeps
returns-clause-keeps g c = λ list count from met.
    noted g.P.Plugin.rule g.P.Plugin.stands_for from c.args.cut count list c.args.heard.now met c.note.new.self c.note.new.lines.items c.note.result c.note.ensures.same_rule c.note.ensures.gives _ refl refl

pub returns-clause-marked : goal.returns-clause-marked
returns-clause-marked g c = λ list count from met.
    if-ok c.note.result _ (λ ok. record {
      met = noted g.P.Plugin.rule g.P.Plugin.stands_for from c.args.cut count list c.args.heard.now met c.note.new.self c.note.new.lines.items c.note.result c.note.ensures.same_rule c.note.ensures.gives _ refl refl;
      mark_is = noted-mark g.P.Plugin.rule g.P.Plugin.stands_for from c.args.cut count list c.args.heard.now met c.note.new.self c.note.new.lines.items c.note.result c.note.ensures.same_rule c.note.ensures.gives _ refl refl ok;
    })
