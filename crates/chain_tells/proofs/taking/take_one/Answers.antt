use Rattle.std.proofs.Common.{◌≡◌, ◌+◌, ℕ, suc, List, slice_index_or, slice_set, sym, subst, arith, refl}
use Rattle.stage_run.specs.Seeing.{seeing}
use Rattle.chain_run.specs.Runs.{told_to}
use Rattle.chain_tells.specs.Taking.{GivesLines}
use Rattle.chain_tells.proofs.TakeLemmas.{kind-is, gives-lines}
use Rattle.chain_tells.proofs.taking.take_one.Goals as goal

next : (n : ℕ) → n + 1 ≡ suc n
next n = omega arith

-- the stage of the plugin in the row, by the number that follows the plugin's
part-at : {X : Type 0} (parts : List X) (j : ℕ) (x : X) → x ≡ slice_index_or parts (j + 1) x → x ≡ slice_index_or parts (suc j) x
part-at parts j x is = subst (λ (n : ℕ). x ≡ slice_index_or parts n x) (next j) is

pub take_lines-requires : goal.take_lines-requires
take_lines-requires g c =
    let see = (seeing g.S.Source.seen g.K.Sink.seen g.P.Plugin.rule g.P.Plugin.stands_for g.P.Plugin.preallocated) in
    let chain = c.args.chain.now in
    record {
      kind = kind-is see c.machine_laws.ensures c.requires.runs.0 chain.core chain.parts.items chain.cells.items c.requires.runs.1 c.args.plugin c.requires.plugin
          c.index_mut.result.now (part-at chain.parts.items c.args.plugin c.index_mut.result.now c.index_mut.ensures.value);
    }

pub returns-clause-gives : goal.returns-clause-gives
returns-clause-gives g c = λ begun written goes marked.
    let see = (seeing g.S.Source.seen g.K.Sink.seen g.P.Plugin.rule g.P.Plugin.stands_for g.P.Plugin.preallocated) in
    let chain = c.args.chain.now in
    subst (λ (n : ℕ). GivesLines see begun goes.runs.visits goes.runs.lists c.args.plugin written c.take_lines.result.items chain.core (slice_set chain.parts.items n c.take_lines.new.self) chain.cells.items) (sym (next c.args.plugin))
    (gives-lines see c.machine_laws.ensures begun chain.core chain.parts.items chain.cells.items goes c.args.plugin c.requires.plugin written
    c.index_mut.result.now c.take_lines.new.self (part-at chain.parts.items c.args.plugin c.index_mut.result.now c.index_mut.ensures.value)
    c.take_lines.ensures.noted c.take_lines.result.items c.take_lines.ensures.taken marked)

pub returns-clause-runs : goal.returns-clause-runs
returns-clause-runs g c =
    let see = (seeing g.S.Source.seen g.K.Sink.seen g.P.Plugin.rule g.P.Plugin.stands_for g.P.Plugin.preallocated) in
    let chain = c.args.chain.now in
    let begun = c.requires.runs.0 in
    let goes = c.requires.runs.1 in
    let given : GivesLines see begun goes.runs.visits goes.runs.lists c.args.plugin (goes.runs.lists (suc c.args.plugin)).mark c.take_lines.result.items chain.core (slice_set chain.parts.items (c.args.plugin + 1) c.take_lines.new.self) chain.cells.items =
    subst (λ (n : ℕ). GivesLines see begun goes.runs.visits goes.runs.lists c.args.plugin (goes.runs.lists (suc c.args.plugin)).mark c.take_lines.result.items chain.core (slice_set chain.parts.items n c.take_lines.new.self) chain.cells.items) (sym (next c.args.plugin))
    (gives-lines see c.machine_laws.ensures begun chain.core chain.parts.items chain.cells.items goes c.args.plugin c.requires.plugin (goes.runs.lists (suc c.args.plugin)).mark
    c.index_mut.result.now c.take_lines.new.self (part-at chain.parts.items c.args.plugin c.index_mut.result.now c.index_mut.ensures.value)
    c.take_lines.ensures.noted c.take_lines.result.items c.take_lines.ensures.taken refl) in
    (told_to begun given.told, given.runs.now)
