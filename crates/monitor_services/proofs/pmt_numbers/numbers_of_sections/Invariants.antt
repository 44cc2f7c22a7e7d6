use Rattle.std.proofs.Common.{◌≡◌, ◌++◌, drop}
use Rattle.std.specs.List.{flat_map}
use Rattle.monitor_services.specs.PmtErrors.{section_number}
use Rattle.monitor_services.proofs.pmt_numbers.numbers_of_sections.Given as goal

-- the numbers so far and those of the sections that are left
abbrev pub invariant-loop-section : goal.invariant-loop-section
invariant-loop-section l =
    l.numbers.items ++ flat_map (section_number l.pid) (drop l.section-index l.sections) ≡ flat_map (section_number l.pid) l.sections
