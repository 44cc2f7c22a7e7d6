use Rattle.std.proofs.Common.{List, ℕ, ◌++◌, ap, ap₂, ◌∙◌}
use Rattle.plug_info_texts.specs.EitTexts.{eit_text}
use Rattle.plug_info_texts.specs.InfoTexts.{service_marks}
use Rattle.plug_info.specs.CaSystems.{program_descriptors, system_ids}
use Rattle.plug_info.specs.SdtStatus.{service_status}
use Rattle.plug_info.proofs.summary.service_marks.Goals as goal

pub returns : goal.returns
returns c = λ cells w p.
    c.in_ok-text.ensures.ok
    ∙ ap₂ (λ (a b : List ℕ). a ++ b)
    (c.in_ok-marks.ensures
    ∙ ap₂ service_marks
    (c.deref.ensures.value ∙ (c.in_ok-ids.ensures ∙ ap system_ids (c.program_descriptors.ensures ∙ ap program_descriptors p)))
    (c.service_status-status.ensures ∙ ap (λ t. service_status t c.args.id) (c.sdt_in_force.ensures cells w)))
    (c.in_ok-eit.ensures ∙ ap eit_text (c.eit_of.ensures cells w))
