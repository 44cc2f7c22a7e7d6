use Rattle.std.proofs.Common.{◌≡◌, ◌+◌, ◌<◌, ◌^◌, ◌++◌, List, [], length, map}
use Rattle.std.specs.String.{string_bytes}
use Rattle.chain_args.specs.PlanBuilder.{StandsFor}
use Rattle.chain_args.specs.Rules.{first_fault}
use Rattle.chain_args.specs.Segments.{Segment, general_words, segments}
use Rattle.chain_args.proofs.plan_of_words.read_segments.Given as goal

abbrev pub invariant-loop-first : goal.invariant-loop-first
invariant-loop-first l = (before : List Segment) × record {
  stands : StandsFor l.parts before;
  begins : general_words (map string_bytes l.rest) ≡ [];
  whole : before ++ segments (map string_bytes l.rest) ≡ segments (map string_bytes l.words);
  later : first_fault [] l.initial.at (segments (map string_bytes l.words)) ≡ first_fault before l.at (segments (map string_bytes l.rest));
  fits : l.at + length l.rest < 2 ^ 64;
}

abbrev pub decreases-loop-first : goal.decreases-loop-first
decreases-loop-first l = length l.rest
