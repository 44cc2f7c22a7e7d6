use Rattle.std.proofs.Common.{List, ℕ, ◌++◌, ap, sym, subst, append-nil, ◌∙◌}
use Rattle.ts_demux.specs.DemuxState.{DemuxState, StandsFor}
use Rattle.ts_demux.specs.SectionsOfPid.{sections_of_pid}
use Rattle.monitor_tables.proofs.Giving.{all_given, given_more}
use Rattle.monitor_tables.proofs.section_reader.take_waiting.Goals as goal

pub loop-section-init : goal.loop-section-init
loop-section-init c = λ pid fed given stands.
    subst (StandsFor c.args.demux.now pid fed) (sym (ap (λ (ss : List (List ℕ)). given ++ ss) c.new-sections.ensures.items ∙ append-nil given)) stands

pub loop-section-preserved : goal.loop-section-preserved
loop-section-preserved c = λ pid fed given stands.
    given_more c.next_section.new.self pid fed given c.loop-section.sections.items c.push.new.self.items c.in-Some.section c.in_ok-push.ensures.items
    (c.in-Some.ensures.first.stands pid fed (given ++ c.loop-section.sections.items) (c.loop-section.invariant pid fed given stands))

pub returns-clause-stands : goal.returns-clause-stands
returns-clause-stands c = λ pid fed given stands.
    let all = all_given c.loop-section.demux pid fed (given ++ c.loop-section.sections.items) c.in_default.ensures.none.0 (c.loop-section.invariant pid fed given stands) in
    subst (λ (d : DemuxState). StandsFor d pid fed (sections_of_pid pid fed)) (sym c.in_default.ensures.none.1)
    (subst (StandsFor c.loop-section.demux pid fed) (sym all) (c.loop-section.invariant pid fed given stands))

pub returns-clause-sections : goal.returns-clause-sections
returns-clause-sections c = λ pid fed given stands.
    all_given c.loop-section.demux pid fed (given ++ c.loop-section.sections.items) c.in_default.ensures.none.0 (c.loop-section.invariant pid fed given stands)
