-- Sections that are taken from a demultiplexer and edited, one by one.
use Rattle.std.proofs.Common.{◌≡◌, ℕ, Bool, true, false, ◌||◌, refl, List, [], ◌∷◌, ◌++◌, Option, Some, None, sym, ◌∙◌, ap, append_assoc}
use Rattle.std.specs.Option.{option_to_list}
use Rattle.std.specs.List.{filter_map, list_any}
use Rattle.ts_demux.specs.DemuxState.{DemuxState, StandsFor, GivesFirst}
use Rattle.section_flow.specs.Flow.{alters}
use Rattle.section_flow.specs.FlowState.{PackingState, Joins}

-- What was edited so far, and what becomes of the sections that wait still, is what becomes of all that waited; and the
-- demultiplexer stands for its packets as before.
pub record Took (edit : List ℕ → Option (List ℕ)) (first now : DemuxState) (before held : PackingState) : Type 0 where
  pub same_pid : held.pid ≡ before.pid
  pub same_rest : held.rest ≡ before.rest
  pub same_counter : held.counter ≡ before.counter
  pub joined : held.sections ++ filter_map edit now.waiting ≡ before.sections ++ filter_map edit first.waiting
  pub stands : (pid : ℕ) (fed given : List (List ℕ)) → StandsFor first pid fed given → (so_far : List (List ℕ)) × StandsFor now pid fed so_far

-- what becomes of the first section, and of those after it
filter_map-first : (edit : List ℕ → Option (List ℕ)) (section : List ℕ) (others : List (List ℕ)) (new : Option (List ℕ)) → edit section ≡ new →
    filter_map edit (section ∷ others) ≡ option_to_list new ++ filter_map edit others
filter_map-first edit section others None e = cc
filter_map-first edit section others (Some s) e = cc

pub took-more :
    (edit : List ℕ → Option (List ℕ)) (first now next : DemuxState) (before held after : PackingState) (section : List ℕ) (new : Option (List ℕ)) →
    GivesFirst now next section → new ≡ edit section → Joins held after (option_to_list new) →
    Took edit first now before held → Took edit first next before after
took-more edit first now next before held after section new gives made joins took = record {
  same_pid = joins.same_pid ∙ took.same_pid;
  same_rest = joins.same_rest ∙ took.same_rest;
  same_counter = joins.same_counter ∙ took.same_counter;
  joined =
      ap (λ t. t ++ filter_map edit next.waiting) joins.joined
      ∙ append_assoc held.sections (option_to_list new) (filter_map edit next.waiting)
      ∙ ap (λ t. held.sections ++ t) (sym (filter_map-first edit section next.waiting new (sym made)))
      ∙ ap (λ t. held.sections ++ filter_map edit t) (sym gives.first)
      ∙ took.joined;
  stands = λ pid fed given h. let t = took.stands pid fed given h in (t.0 ++ section ∷ [], gives.stands pid fed t.0 t.1);
}

-- Whether one of those so far was altered, or one that waits still will be, is whether one of all that waited is.
pub record AlteredSoFar (edit : List ℕ → Option (List ℕ)) (first now : DemuxState) (so_far : Bool) : Type 0 where
  pub same : (so_far || list_any (alters edit) now.waiting) ≡ list_any (alters edit) first.waiting

or-later : (a b c : Bool) → ((a || b) || c) ≡ (a || (b || c))
or-later true b c = refl
or-later false b c = refl

pub altered-more :
    (edit : List ℕ → Option (List ℕ)) (first now next : DemuxState) (section : List ℕ) (so_far one both : Bool) →
    GivesFirst now next section → one ≡ alters edit section → both ≡ (so_far || one) →
    AlteredSoFar edit first now so_far → AlteredSoFar edit first next both
altered-more edit first now next section so_far one both gives is either seen = record {
  same =
      ap (λ b. b || list_any (alters edit) next.waiting) (either ∙ ap (λ b. so_far || b) is)
      ∙ or-later so_far (alters edit section) (list_any (alters edit) next.waiting)
      ∙ ap (λ t. so_far || list_any (alters edit) t) (sym gives.first)
      ∙ seen.same;
}

or-none : (a : Bool) → (a || false) ≡ a
or-none true = refl
or-none false = refl

-- where nothing waits any more
pub altered-all : (edit : List ℕ → Option (List ℕ)) (first now : DemuxState) (so_far : Bool) → now.waiting ≡ [] →
    AlteredSoFar edit first now so_far → so_far ≡ list_any (alters edit) first.waiting
altered-all edit first now so_far none seen =
    sym (or-none so_far) ∙ ap (λ t. so_far || list_any (alters edit) t) (sym none) ∙ seen.same
