use Rattle.std.proofs.Common.{◌≡◌, ◌++◌, take}
use Rattle.std.specs.Prelude.{fold}
use Rattle.std.specs.List.{flat_map}
use Rattle.std.specs.String.{string_bytes}
use Rattle.search_source.specs.Gaps.{no_gaps}
use Rattle.tsp_top.specs.LeftOut.{with_below}
use Rattle.tsp_top.specs.PlannedChain.{stuffing_of}
use Rattle.tsp_top.specs.Printed.{gap_printed}
use Rattle.tsp_top.proofs.input_report.push_gaps.Given as goal

abbrev pub invariant-loop-gap : goal.invariant-loop-gap
invariant-loop-gap l =
    (string_bytes l.text ≡ string_bytes l.initial.text ++ flat_map (gap_printed l.general.bare (stuffing_of l.general) l.cut l.form) (take l.gap-index l.gaps))
    × (l.counts ≡ fold (with_below (stuffing_of l.general) l.cut l.form) no_gaps (take l.gap-index l.gaps))
