use Rattle.std.proofs.Common.{◌∙◌, ap, length, map, sym, Some, subst}
use Rattle.std.specs.String.{string_bytes}
use Rattle.std.proofs.lemmas.List.{length-map}
use Rattle.chain_args.specs.General.{general}
use Rattle.chain_args.specs.PlanBuilder.{StandsFor}
use Rattle.chain_args.specs.WordsFault.{FaultsBy, IsFirstFault}
use Rattle.chain_args.proofs.PlanLemmas.{general_fault, handed_on, plan_from, reads_refuses, refused_here, segments_fault}
use Rattle.chain_args.proofs.plan_of_words.plan.Goals as goal

pub returns-in-Err-clause-fault : goal.returns-in-Err-clause-fault
returns-in-Err-clause-fault c = refused_here 0 _ _ _ c.in-Err.refusal c.at.result c.at.ensures
    (reads_refuses general _ (map string_bytes c.cut_at_segment.result.0.now) c.in-Err.refusal c.cut_at_segment.ensures.front c.in-Err.ensures.reads)
    (general_fault (map string_bytes c.args.words.now))

pub returns-in_err-parts-clause-fault : goal.returns-in_err-parts-clause-fault
returns-in_err-parts-clause-fault c =
    let all = segments_fault (map string_bytes c.args.words.now) (map string_bytes c.cut_at_segment.result.0.now) (map string_bytes c.cut_at_segment.result.1.now) (length c.cut_at_segment.result.0.now) c.cut_at_segment.ensures.front c.cut_at_segment.ensures.rest (sym (length-map c.cut_at_segment.result.0.now string_bytes)) c.in-Ok.ensures.reads.0 in
    handed_on (IsFirstFault (map string_bytes c.args.words.now)) c.in_err-parts.field-0.0 c.from_residual.result c.from_residual.ensures.1
    (subst (λ fault. FaultsBy fault c.in_err-parts.field-0.0) (sym all) c.in_err-parts.ensures)

pub returns-clause-plan : goal.returns-clause-plan
returns-clause-plan c =
    let all = segments_fault (map string_bytes c.args.words.now) (map string_bytes c.cut_at_segment.result.0.now) (map string_bytes c.cut_at_segment.result.1.now) (length c.cut_at_segment.result.0.now) c.cut_at_segment.ensures.front c.cut_at_segment.ensures.rest (sym (length-map c.cut_at_segment.result.0.now string_bytes)) c.in-Ok.ensures.reads.0 in
    let stands = subst (StandsFor c.in_ok-parts.parts) (ap (λ p. p.1) c.cut_at_segment.ensures.rest) c.in_ok-parts.ensures.1 in
    plan_from (map string_bytes c.args.words.now) (map string_bytes c.cut_at_segment.result.0.now) c.in-Ok.general c.in_ok-parts.parts c.cut_at_segment.ensures.front (all ∙ c.in_ok-parts.ensures.0) c.in-Ok.ensures.reads.1 stands
    ∙ ap Some (sym c.into_plan.ensures)
