use Rattle.std.proofs.Common.{◌≡◌, ℕ, ◌+◌, ◌-◌, ◌≤◌, Option, List, [], ◌++◌, length, take, None, Some, refl, sym, ap, subst, arith, ◌∙◌, length-append, length-take, append-nil, add-zero, is_some}
use Rattle.std.proofs.lemmas.Bool.{eqb-true}
use Rattle.plugin_trait.specs.declared.list_end.ListEnd.TheVariants.{Through}
use Rattle.plugin_trait.specs.Steps.{IsPreallocatedFor}
use Rattle.chain_model.specs.PluginRule.{PluginRule}
use Rattle.chain_core.specs.declared.stage_end.StageEnd.{StageEnd}
use Rattle.stage_run.specs.PartStands.{MayWork}
use Rattle.stage_run.specs.declared.plugin_stage.PluginStage.{PluginStage}
use Rattle.chain_model.specs.Apply.{apply_after}
use Rattle.stage_run.specs.PartLists.{PartLists}
use Rattle.stage_run.specs.HeardSince.{HeardSince}
use Rattle.stage_run.specs.Telling.{followed, FollowsNews}
use Rattle.stage_run.proofs.InputWorking.{plain_work}
use Rattle.plugin_trait.proofs.AgreeingLemmas.{newly_agreed-within}
use Rattle.std.proofs.lemmas.List.{nil_from_length}
use Rattle.ts_packet.specs.declared.cell.Cell.{Cell}
use Rattle.cell_rows.specs.Cells.{cells_of}
use Rattle.cell_rows.proofs.CellLemmas.{cells_long}
use Rattle.chain_model.specs.Joint.{agreement_of}
use Rattle.chain_model.proofs.AgreementLaws.{agreement_of-within}
use Rattle.plugin_trait.specs.declared.list_end.ListEnd.TheVariants as window
use Rattle.chain_core.specs.declared.stage_end.StageEnd.TheVariants.{NoMemory}
use Rattle.stage_run.specs.PluginSteps.{Allows, told_by}
use Rattle.stage_run.specs.PluginStands.{PluginStands}
use Rattle.stage_run.specs.Works.{Works, PluginWorks, DoesAll, StayAsTheyWere}
use Rattle.stage_run.proofs.WorkLemmas.{plain-stage, followed-memory}
use Rattle.stage_run.proofs.PluginWorking.{plugin_works, newly_agreed-Some, through_all, no_memory_told, preallocated_less, FollowsNews-followed, FollowsNews-told}
use Rattle.stage_run.proofs.plugin_stage.PluginStage.work.Goals as goal

-- lists after which a plugin's stage may work allow its mark
allowed : {P : Type 0} (rule : P → PluginRule) (stands : P → List Cell → ℕ → Type 0) (old : PluginStage P) (lists : PartLists) (at written : ℕ)
    → MayWork (PluginStands rule stands old) at written lists → written ≤ at → Allows (stands old.heard.plugin) at written lists.met lists.mark
allowed rule stands old lists at written may within =
    record { holds = may.goes_on.heard.holds; count = sym may.goes_on.length_same ∙ may.given; not_below = may.mark; within = within }

-- and its lines with it
allowed-heard : {P : Type 0} (rule : P → PluginRule) (stands : P → List Cell → ℕ → Type 0) (old : PluginStage P) (lists : PartLists) (at written : ℕ)
    → MayWork (PluginStands rule stands old) at written lists → written ≤ at → Allows (HeardSince rule stands lists.from old.heard) at written lists.met lists.mark
allowed-heard rule stands old lists at written may within =
    record { holds = may.goes_on.heard; count = sym may.goes_on.length_same ∙ may.given; not_below = may.mark; within = within }

pub returns-clause-work : goal.returns-clause-work
returns-clause-work g c =
    let rule = g.P.Plugin.rule in
    let stands = g.P.Plugin.stands_for in
    let old = c.args.self.now in
    let new = c.pass-stepped.new.self in
    let news = c.args.news.now in
    let cells : List Cell = cells_of c.args.packets.now c.args.marks.now in
    let cells_new : List Cell = cells_of c.pass-stepped.new.packets c.pass-stepped.new.marks in
    let long : length cells ≡ length c.args.packets.now = cells_long c.args.packets.now c.args.marks.now c.requires.long in
    let long_new : length cells_new ≡ length c.args.packets.now =
    (let e : length c.pass-stepped.new.marks ≡ length c.pass-stepped.new.packets = (let r = c.requires.long in omega (arith, r)) in cells_long c.pass-stepped.new.packets c.pass-stepped.new.marks e)
    ∙ (let e : length c.pass-stepped.new.packets ≡ length c.args.packets.now = omega arith in e) in
    let stepped = c.pass-stepped.result in
    let some : PartLists = c.requires.stands.lists in
    let may = c.requires.stands.may in
    let allows = allowed rule stands old some c.args.at news.written may c.requires.written in
    record {
      done = let n = c.pass-stepped.ensures.count in omega (arith, n, long);
      rest = c.pass-stepped.ensures.rest;
      goes_on = λ none.
          let all = through_all stepped.end news (c.args.at + stepped.count) (rule old.heard.plugin) some.met cells (take stepped.count cells_new)
          (c.pass-stepped.ensures.makes some.met some.mark allows) (sym c.told.ensures ∙ none) in
          let n = c.pass-stepped.ensures.count in omega (arith, length-take stepped.count cells_new, all, n, long, long_new);
      follows = subst (λ (e : Option StageEnd). FollowsNews news (c.args.at + stepped.count) e) (sym c.told.ensures) (FollowsNews-told stepped.end news (c.args.at + stepped.count));
      agreed = λ agreed told.
          let met : List Cell = some.met ++ take stepped.count cells in
          let tells = c.pass-stepped.ensures.agreed some.met some.mark allows may.goes_on.agreed in
          let known = newly_agreed-Some c.args.at (agreement_of (rule old.heard.plugin) met) agreed (sym tells.tells ∙ told) in
          let few : agreed ≤ length met = agreement_of-within (rule old.heard.plugin) met agreed known.1 in
          let count : length some.met ≡ c.args.at = allows.count in
          (known.0, omega (arith, length-append some.met (take stepped.count cells), length-take stepped.count cells, c.pass-stepped.ensures.count, long));
      memory = λ told.
          let ended : told_by stepped.end news (c.args.at + stepped.count) ≡ Some NoMemory = sym c.told.ensures ∙ told in
          let end : stepped.end ≡ window.NoMemory = no_memory_told stepped.end news (c.args.at + stepped.count) ended in
          λ preallocated. c.pass-stepped.ensures.room (preallocated_less (g.P.Plugin.preallocated old.heard.plugin) (news.taken - news.written)
          (c.args.at + length c.args.packets.now - news.written) (let a = c.requires.in_hand in omega arith) preallocated) end;
      works = λ lists may'.
          let fine = allowed rule stands old lists c.args.at news.written may' c.requires.written in
          let met = c.pass-stepped.ensures.met lists.from lists.met lists.mark (allowed-heard rule stands old lists c.args.at news.written may' c.requires.written) in
          subst (λ (e : Option StageEnd). Works (PluginStands rule stands new) (PluginWorks (rule old.heard.plugin) lists news cells cells_new (record { done = stepped.count; word = record { agreed = stepped.agreed; ended = e } })) lists news.written cells cells_new (record { done = stepped.count; word = record { agreed = stepped.agreed; ended = e } }))
          (sym c.told.ensures)
          (plugin_works rule stands old new lists news cells cells_new c.args.at news.written stepped.count stepped.agreed stepped.end may'
          c.pass-stepped.ensures.same_rule (long_new ∙ sym long) (let n = c.pass-stepped.ensures.count in omega (arith, n, long)) (c.pass-stepped.ensures.makes lists.met lists.mark fine) (c.pass-stepped.ensures.far lists.met lists.mark fine)
          met.mark met.holds met.below (λ some_. met.told) (c.pass-stepped.ensures.agreed lists.met lists.mark fine may'.goes_on.agreed));
    }

pub returns-then-is_empty-clause-work : goal.returns-then-is_empty-clause-work
returns-then-is_empty-clause-work g c =
    let rule = g.P.Plugin.rule in
    let stands = g.P.Plugin.stands_for in
    let old = c.args.self.now in
    let news = c.args.news.now in
    let cells : List Cell = cells_of c.args.packets.now c.args.marks.now in
    let none : cells ≡ [] = nil_from_length cells (cells_long c.args.packets.now c.args.marks.now c.requires.long ∙ eqb-true (length c.args.packets.now) 0 (sym c.is_empty.ensures ∙ c.if-is_empty.true)) in
    let told : c.ending.result ≡ plain_work 0 (followed news (c.args.at + 0)) =
    c.ending.ensures ∙ ap (plain_work 0) c.followed.ensures ∙ ap (λ (n : ℕ). plain_work 0 (followed news n)) (sym (add-zero c.args.at)) in
    plain-stage (PluginStands rule stands old) (PluginStands rule stands old) (λ ahead. IsPreallocatedFor (g.P.Plugin.preallocated old.heard.plugin) ahead → ⊥) StayAsTheyWere DoesAll
    (λ w before. PluginWorks (rule old.heard.plugin) before news cells cells w)
    c.args.at news cells cells c.ending.result 0 (followed news (c.args.at + 0)) told (omega arith) refl
    (λ e. omega (arith, ap (λ (l : List Cell). length l) none)) (FollowsNews-followed news (c.args.at + 0)) (followed-memory news (c.args.at + 0))
    (λ lists may.
    let count : length lists.met ≡ c.args.at = sym may.goes_on.length_same ∙ may.given in
    let same : lists.met ++ [] ≡ lists.met = append-nil lists.met in
    plugin_works rule stands old old lists news cells cells c.args.at news.written 0 None Through may refl refl (omega arith)
    (ap (λ (l : List Cell). (apply_after (rule old.heard.plugin) lists.met l).cells) (sym none), ap (λ (l : List Cell). (apply_after (rule old.heard.plugin) lists.met l).ended) none)
    refl
    lists.mark (subst (λ (h : List Cell). HeardSince rule stands lists.from old.heard h lists.mark) (sym same) may.goes_on.heard) may.mark
    (λ some fine. absurd (omega (arith, some, ap (λ (l : List Cell). length l) none)))
    (record {
      tells = sym (newly_agreed-within c.args.at (agreement_of (rule old.heard.plugin) (lists.met ++ []))
          (λ m is. let few = agreement_of-within (rule old.heard.plugin) (lists.met ++ []) m is in omega (arith, length-append lists.met [])));
      notes = may.goes_on.agreed ∙ ap (λ (h : List Cell). is_some (agreement_of (rule old.heard.plugin) h)) (sym same);
    }))
