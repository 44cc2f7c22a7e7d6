use Rattle.std.proofs.Common.{[], ◌∷◌, ◌++◌, ap, sym, ◌∙◌, subst}
use Rattle.std.specs.Prelude.{reverse}
use Rattle.ts_packet.specs.Cells.{Live, live_packets}
use Rattle.plugin_trait.specs.Finding.{first_of, IsFirstFind}
use Rattle.plugin_trait.specs.declared.first_find.FirstFind.{FirstFind}
use Rattle.plugin_trait.proofs.FindLemmas.{find-met}
use Rattle.plug_inject.specs.InjectRule.{Injection, replaces}
use Rattle.plug_inject.specs.InjectState.{how_of, Stands}
use Rattle.plug_inject.proofs.MetLemmas.{marks-more, stands-live}
use Rattle.plug_inject.proofs.inject.InjectStepsSteps.step.Goals as goal

pub returns-clause-meets : goal.returns-clause-meets
returns-clause-meets c = λ history mark stands count.
    let old = c.args.self.now in
    let new = c.meet-replaced.new.self in
    let cell = Live c.args.packet.now c.args._labels.now in
    let older = reverse (live_packets history) in
    let found : IsFirstFind (replaces (how_of old)) (history ++ cell ∷ []) c.meet.new.self =
    find-met (replaces (how_of old)) history c.args.packet.now c.args._labels.now c.args.at c.meet-replaced.result old.found c.meet.new.self
    stands.0.1 count (c.meet-replaced.ensures.replaced older stands.0.0.counts)
    (c.meet.ensures ∙ ap (λ (f : FirstFind). first_of f.at c.args.at c.meet-replaced.result) c.meet-replaced.ensures.found) in (
      subst (λ (how : Injection). Stands how new.supply.given new.wait new.counting (history ++ cell ∷ []) × IsFirstFind (replaces how) (history ++ cell ∷ []) c.meet.new.self) (sym c.meet-replaced.ensures.same) (
        stands-live (how_of old) old.supply.given old.wait new.supply.given new.wait old.counting new.counting history c.args.packet.now c.args._labels.now stands.0.0
            (c.meet-replaced.ensures.counts older stands.0.0.counts) (c.meet-replaced.ensures.numbers older stands.0.0.counts stands.0.0.numbers),
        found,
      ),
      marks-more history cell mark stands.1,
    )
