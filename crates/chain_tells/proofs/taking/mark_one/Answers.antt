use Rattle.std.proofs.Common.{◌≡◌, ◌+◌, ℕ, suc, List, Result, Ok, Err, IfOk, is_ok, slice_index_or, slice_set, sym, subst, arith, refl}
use Rattle.std.specs.Prelude.{true}
use Rattle.stage_run.specs.Seeing.{seeing}
use Rattle.chain_run.specs.Runs.{told_to}
use Rattle.chain_tells.specs.Taking.{StillRuns, Marks}
use Rattle.chain_tells.proofs.TakeLemmas.{kind-is, allows-note, note-still, note-marks}
use Rattle.chain_tells.proofs.taking.mark_one.Goals as goal

next : (n : ℕ) → n + 1 ≡ suc n
next n = omega arith

if-ok : {T E : Type 0} (r : Result T E) (P : Type 0) → (is_ok r ≡ true → P) → IfOk r (λ _. P)
if-ok (Ok x) P p = p refl
if-ok (Err e) P p = tt

-- the stage of the plugin in the row, by the number that follows the plugin's
part-at : {X : Type 0} (parts : List X) (j : ℕ) (x : X) → x ≡ slice_index_or parts (j + 1) x → x ≡ slice_index_or parts (suc j) x
part-at parts j x is = subst (λ (n : ℕ). x ≡ slice_index_or parts n x) (next j) is

pub note-requires-clause-kind : goal.note-requires-clause-kind
note-requires-clause-kind g c =
    let see = (seeing g.S.Source.seen g.K.Sink.seen g.P.Plugin.rule g.P.Plugin.stands_for g.P.Plugin.preallocated) in
    let chain = c.args.chain.now in
    kind-is see c.machine_laws.ensures c.requires.runs.0 chain.core chain.parts.items chain.cells.items c.requires.runs.1 c.args.plugin c.requires.plugin
    c.index_mut.result.now (part-at chain.parts.items c.args.plugin c.index_mut.result.now c.index_mut.ensures.value)

pub note-requires-clause-allows : goal.note-requires-clause-allows
note-requires-clause-allows g c =
    let see = (seeing g.S.Source.seen g.K.Sink.seen g.P.Plugin.rule g.P.Plugin.stands_for g.P.Plugin.preallocated) in
    let chain = c.args.chain.now in
    allows-note see c.machine_laws.ensures c.requires.runs.0 chain.core chain.parts.items chain.cells.items c.requires.runs.1 c.args.plugin c.requires.plugin
    c.args.written c.requires.written c.index_mut.result.now (part-at chain.parts.items c.args.plugin c.index_mut.result.now c.index_mut.ensures.value)

pub returns-clause-marks : goal.returns-clause-marks
returns-clause-marks g c = λ begun goes.
    let see = (seeing g.S.Source.seen g.K.Sink.seen g.P.Plugin.rule g.P.Plugin.stands_for g.P.Plugin.preallocated) in
    let chain = c.args.chain.now in
    if-ok c.note.result _ (λ ok.
    subst (λ (n : ℕ). Marks see begun goes.runs.visits goes.runs.lists c.args.plugin c.args.written chain.core (slice_set chain.parts.items n c.note.new.self) chain.cells.items) (sym (next c.args.plugin))
    (note-marks see c.machine_laws.ensures begun chain.core chain.parts.items chain.cells.items goes c.args.plugin c.requires.plugin c.args.written
    c.index_mut.result.now c.note.new.self (part-at chain.parts.items c.args.plugin c.index_mut.result.now c.index_mut.ensures.value) c.requires.written c.note.result c.note.ensures.noted ok))

pub returns-clause-keeps : goal.returns-clause-keeps
returns-clause-keeps g c = λ begun goes.
    let see = (seeing g.S.Source.seen g.K.Sink.seen g.P.Plugin.rule g.P.Plugin.stands_for g.P.Plugin.preallocated) in
    let chain = c.args.chain.now in
    subst (λ (n : ℕ). StillRuns see begun goes.runs.visits begun.told chain.core (slice_set chain.parts.items n c.note.new.self) chain.cells.items) (sym (next c.args.plugin))
    (note-still see c.machine_laws.ensures begun chain.core chain.parts.items chain.cells.items goes c.args.plugin c.requires.plugin c.args.written
    c.index_mut.result.now c.note.new.self (part-at chain.parts.items c.args.plugin c.index_mut.result.now c.index_mut.ensures.value) c.requires.written c.note.result c.note.ensures.noted)

pub returns-clause-runs : goal.returns-clause-runs
returns-clause-runs g c =
    let see = (seeing g.S.Source.seen g.K.Sink.seen g.P.Plugin.rule g.P.Plugin.stands_for g.P.Plugin.preallocated) in
    let chain = c.args.chain.now in
    let begun = c.requires.runs.0 in
    let goes = c.requires.runs.1 in
    let kept : StillRuns see begun goes.runs.visits begun.told chain.core (slice_set chain.parts.items (c.args.plugin + 1) c.note.new.self) chain.cells.items =
    subst (λ (n : ℕ). StillRuns see begun goes.runs.visits begun.told chain.core (slice_set chain.parts.items n c.note.new.self) chain.cells.items) (sym (next c.args.plugin))
    (note-still see c.machine_laws.ensures begun chain.core chain.parts.items chain.cells.items goes c.args.plugin c.requires.plugin c.args.written
    c.index_mut.result.now c.note.new.self (part-at chain.parts.items c.args.plugin c.index_mut.result.now c.index_mut.ensures.value) c.requires.written c.note.result c.note.ensures.noted) in
    (told_to begun begun.told, kept.now)
