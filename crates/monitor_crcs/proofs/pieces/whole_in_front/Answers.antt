use Rattle.std.proofs.Common.{◌≤◌, length, refl, arith}
use Rattle.ts_demux.specs.Cut.{size_in_front}
use Rattle.ts_demux.proofs.Cutting.{never_whole, short_is_not_whole, part_is_not_whole, over_is_not_whole, IsWhole-to}
use Rattle.monitor_crcs.proofs.pieces.whole_in_front.Goals as goal
use Rattle.monitor_crcs.proofs.pieces.whole_in_front.Goals.{then-bytes-lt-HEAD-via-then-bytes-lt-HEAD, then-bytes-lt-HEAD-via-else-bytes-lt-HEAD+then-is_over}

pub returns-then-bytes-lt-HEAD-clause-whole : goal.returns-then-bytes-lt-HEAD-clause-whole
returns-then-bytes-lt-HEAD-clause-whole c =
    elim c.then-bytes-lt-HEAD.branch [
      | then-bytes-lt-HEAD-via-then-bytes-lt-HEAD w ↦ never_whole c.args.bytes.now (short_is_not_whole c.args.bytes.now w.if-bytes-lt-HEAD.true)
      | then-bytes-lt-HEAD-via-else-bytes-lt-HEAD+then-is_over w ↦ never_whole c.args.bytes.now (over_is_not_whole c.args.bytes.now (w.if-is_over.ensures.over refl))
    ]

pub returns-then-size-bytes-clause-whole : goal.returns-then-size-bytes-clause-whole
returns-then-size-bytes-clause-whole c =
    let alive = c.if-is_over.ensures.alive refl in
    let there : size_in_front c.args.bytes.now ≤ length c.args.bytes.now = omega arith in (
      λ _. IsWhole-to c.args.bytes.now (record {
        head = omega arith;
        no_stuffing = alive.no_stuffing (omega arith);
        in_range = alive.in_range (omega arith);
        there = there;
      }),
      λ _. refl,
    )

pub returns-else-size-bytes-clause-whole : goal.returns-else-size-bytes-clause-whole
returns-else-size-bytes-clause-whole c =
    never_whole c.args.bytes.now (part_is_not_whole c.args.bytes.now (omega arith))
