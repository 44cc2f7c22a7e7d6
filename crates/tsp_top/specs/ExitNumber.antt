-- The exit number of each status. This project's own rule.
use Rattle.std.specs.Prelude.{ℕ}
use Rattle.tsp_top.specs.declared.status.Status.{Status}
use Rattle.tsp_top.specs.declared.status.Status.TheVariants.{Done, NoMemory, Words, ReadFault, WriteFault, Sync, TableFile, Refused, TooLong, InputEnded, FaultFound}

abbrev pub exit_number : Status → ℕ
exit_number Done = 0
exit_number NoMemory = 1
exit_number (Words fault) = 2
exit_number ReadFault = 3
exit_number WriteFault = 4
exit_number (Sync packet) = 5
exit_number (TableFile plugin fault) = 6
exit_number (Refused plugin reason) = 7
exit_number TooLong = 8
exit_number InputEnded = 9
exit_number FaultFound = 9
