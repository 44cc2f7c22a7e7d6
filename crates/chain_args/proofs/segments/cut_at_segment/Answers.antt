use Rattle.std.specs.String.{string_bytes}
use Rattle.chain_args.proofs.SegmentLemmas.{front_cut, rest_cut}
use Rattle.chain_args.proofs.segments.cut_at_segment.Goals as goal

pub returns-clause-front : goal.returns-clause-front
returns-clause-front c =
    front_cut string_bytes c.args.words.now c.first_segment.result c.unwrap_or-end.result c.split_at.result.0.now c.first_segment.ensures c.unwrap_or-end.ensures c.split_at.ensures.front

pub returns-clause-rest : goal.returns-clause-rest
returns-clause-rest c =
    rest_cut string_bytes c.args.words.now c.first_segment.result c.unwrap_or-end.result c.split_at.result.1.now c.first_segment.ensures c.unwrap_or-end.ensures c.split_at.ensures.back
