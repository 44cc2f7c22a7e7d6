use Rattle.std.proofs.Common.{◌≡◌, ℕ, ◌+◌, List, [], ◌∷◌, ◌++◌, Bool, if◌then◌else◌, ap, sym, subst, ◌∙◌, arith}
use Rattle.ts_packet.specs.declared.cell.Cell.{Cell}
use Rattle.ts_packet.specs.Cells.{Live}
use Rattle.plugin_trait.specs.Steps.{met_after}
use Rattle.plug_every.specs.EveryStands.{StandsEvery}
use Rattle.plug_every.specs.declared.due.Due.{Due}
use Rattle.plug_every.proofs.DueCells.{count-live, noted}
use Rattle.plug_every.proofs.StandsLemmas.{few_live, stands_cell}
use Rattle.plug_every.proofs.every_plugin.EveryPluginPlugin.step.Goals as goal

pub count-requires-clause-few : goal.count-requires-clause-few
count-requires-clause-few g c =
    omega (arith, c.requires.met.holds.seen, few_live c.requires.met.history, c.requires.met.count, c.requires.in_range)

pub returns-clause-meets : goal.returns-clause-meets
returns-clause-meets g c = λ history mark w count.
    let packet : List ℕ = c.args.packet.now in
    let labels : ℕ = c.args.labels.now in
    let cell : Cell = Live packet labels in
    let more : met_after c.step-outcome.result history cell ≡ history ++ cell ∷ [] =
    c.has_met.ensures history cell ∙ ap (λ (b : Bool). if b then history ++ cell ∷ [] else history) c.if-not-has_met.false in
    subst (λ (met : List Cell). StandsEvery g.P.Plugin.rule g.P.Plugin.stands_for c.count.new.self met mark) (sym more)
    (stands_cell g.P.Plugin.rule g.P.Plugin.stands_for c.args.self.now c.count.new.self history cell mark w
    (subst (λ (p : _). g.P.Plugin.stands_for p (history ++ cell ∷ []) w.inner) (sym c.count.ensures.plugin)
    (subst (λ (met : List Cell). g.P.Plugin.stands_for c.step-outcome.new.self met w.inner) more (c.step-outcome.ensures.meets history w.inner w.holds count)))
    c.count.ensures.every (c.count.ensures.seen ∙ (ap (λ (k : ℕ). k + 1) w.seen ∙ sym (count-live history packet labels)))
    c.count.ensures.mark c.count.ensures.failed (ap g.P.Plugin.rule c.count.ensures.plugin ∙ c.step-outcome.ensures.same_rule)
    (λ none. c.count.ensures.due (c.is_full.ensures c.if-is_full.false none)
    ∙ ap (λ (due : List Due). c.args.self.now.due.items ++ due) (noted c.args.self.now.every c.args.self.now.seen c.args.at history packet labels w.seen (sym count))))
