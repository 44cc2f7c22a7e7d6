use Rattle.plug_info_state.proofs.EitLemmas.{all-counted, first-counted}
use Rattle.plug_info_state.proofs.eit_counts.count_waiting.Goals as goal

pub loop-section-init : goal.loop-section-init
loop-section-init c = λ fed given w. record { given = given; counts = w }

pub loop-section-preserved : goal.loop-section-preserved
loop-section-preserved c = λ fed given w.
    first-counted _ _ _ _ _ _ fed c.in-Some.section c.in-Some.ensures.first c.in_ok-count_section.ensures.present c.in_ok-count_section.ensures.schedule
    (c.loop-section.invariant fed given w)

pub returns : goal.returns
returns c = λ fed given w. all-counted _ _ _ _ fed c.in_default.ensures.none.0 c.in_default.ensures.none.1 (c.loop-section.invariant fed given w)
