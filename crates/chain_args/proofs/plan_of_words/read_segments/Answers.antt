use Rattle.std.proofs.Common.{◌∙◌, ◌+◌, ◌++◌, ◌∷◌, [], List, ap, map, sym, subst, arith, append-nil}
use Rattle.std.specs.String.{string_bytes}
use Rattle.std.proofs.lemmas.List.{length-map}
use Rattle.chain_args.specs.PlanBuilder.{StandsFor, segment}
use Rattle.chain_args.specs.Rules.{first_fault}
use Rattle.chain_args.specs.Segments.{Segment, segments}
use Rattle.chain_args.proofs.PlanLemmas.{ended, fault_passed, fault_step, first_begins, next_begins, no_fault_left, no_words, refused_here, whole_step}
use Rattle.chain_args.proofs.plan_of_words.read_segments.Goals as goal

pub add-requires : goal.add-requires
add-requires c = first_begins (map string_bytes c.loop-first.rest.now) (map string_bytes c.in-Some.after.now) (map string_bytes c.cut_at_segment.result.0.now) (map string_bytes c.cut_at_segment.result.1.now) c.as_str.result.now
    (ap (map string_bytes) c.in-Some.ensures.cases.0 ∙ ap (λ word. word ∷ map string_bytes c.in-Some.after.now) (sym c.as_str.ensures.value)) c.loop-first.invariant.1.begins c.cut_at_segment.ensures.front c.cut_at_segment.ensures.rest

pub returns-in-Err : goal.returns-in-Err
returns-in-Err c = refused_here c.loop-first.at _ _ _ c.in-Err.refusal c.at.result c.at.ensures (c.in-Err.ensures c.loop-first.invariant.0 c.loop-first.invariant.1.stands)
    (c.loop-first.invariant.1.later ∙ fault_step (map string_bytes c.loop-first.rest.now) (map string_bytes c.in-Some.after.now) (map string_bytes c.cut_at_segment.result.0.now) (map string_bytes c.cut_at_segment.result.1.now) c.as_str.result.now
    (ap (map string_bytes) c.in-Some.ensures.cases.0 ∙ ap (λ word. word ∷ map string_bytes c.in-Some.after.now) (sym c.as_str.ensures.value)) c.loop-first.invariant.1.begins c.cut_at_segment.ensures.front c.cut_at_segment.ensures.rest c.loop-first.invariant.0 c.loop-first.at)

pub loop-first-preserved : goal.loop-first-preserved
loop-first-preserved c =
    let before : List Segment = c.loop-first.invariant.0 in
    let s : Segment = segment c.as_str.result.now (map string_bytes c.cut_at_segment.result.0.now) in
    let added = c.in-Ok.ensures before c.loop-first.invariant.1.stands in (
      before ++ s ∷ [],
      record {
        stands = added.1;
        begins = next_begins (map string_bytes c.loop-first.rest.now) (map string_bytes c.in-Some.after.now) (map string_bytes c.cut_at_segment.result.0.now) (map string_bytes c.cut_at_segment.result.1.now) c.as_str.result.now
            (ap (map string_bytes) c.in-Some.ensures.cases.0 ∙ ap (λ word. word ∷ map string_bytes c.in-Some.after.now) (sym c.as_str.ensures.value)) c.loop-first.invariant.1.begins c.cut_at_segment.ensures.front c.cut_at_segment.ensures.rest;
        whole = whole_step (map string_bytes c.loop-first.rest.now) (map string_bytes c.in-Some.after.now) (map string_bytes c.cut_at_segment.result.0.now) (map string_bytes c.cut_at_segment.result.1.now) c.as_str.result.now
            (ap (map string_bytes) c.in-Some.ensures.cases.0 ∙ ap (λ word. word ∷ map string_bytes c.in-Some.after.now) (sym c.as_str.ensures.value)) c.loop-first.invariant.1.begins c.cut_at_segment.ensures.front c.cut_at_segment.ensures.rest before _ c.loop-first.invariant.1.whole;
        later = c.loop-first.invariant.1.later ∙ fault_passed (map string_bytes c.loop-first.rest.now) (map string_bytes c.in-Some.after.now) (map string_bytes c.cut_at_segment.result.0.now) (map string_bytes c.cut_at_segment.result.1.now) c.as_str.result.now
            (ap (map string_bytes) c.in-Some.ensures.cases.0 ∙ ap (λ word. word ∷ map string_bytes c.in-Some.after.now) (sym c.as_str.ensures.value)) c.loop-first.invariant.1.begins c.cut_at_segment.ensures.front c.cut_at_segment.ensures.rest before c.loop-first.at added.0
            ∙ ap (λ n. first_fault (before ++ s ∷ []) (c.loop-first.at + (1 + n)) (segments (map string_bytes c.cut_at_segment.result.1.now))) (length-map c.cut_at_segment.result.0.now string_bytes);
        fits = omega (arith, c.loop-first.invariant.1.fits, c.in-Some.ensures.cases.1, c.cut_at_segment.ensures.count);
      },
    )

pub returns : goal.returns
returns c =
    let left = ended (map string_bytes c.loop-first.rest.now) (no_words string_bytes c.loop-first.rest.now c.in_default.ensures.cases) in (
      c.loop-first.invariant.1.later ∙ ap (first_fault c.loop-first.invariant.0 c.loop-first.at) left ∙ no_fault_left c.loop-first.invariant.0 c.loop-first.at,
      subst (StandsFor c.loop-first.parts) (sym (append-nil c.loop-first.invariant.0) ∙ ap (λ xs. c.loop-first.invariant.0 ++ xs) (sym left) ∙ c.loop-first.invariant.1.whole) c.loop-first.invariant.1.stands,
    )
