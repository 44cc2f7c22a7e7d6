-- The exit numbers of `tsswitch`. This project's own rule.
use Rattle.std.specs.Prelude.{ℕ}
use Rattle.switch_top.specs.declared.status.SwitchStatus.{SwitchStatus}
use Rattle.switch_top.specs.declared.status.SwitchStatus.TheVariants.{Done, NoMemory, Words, ReadFault, WriteFault, Sync, TooLong}

-- the exit number of a status
abbrev pub exit_number : SwitchStatus → ℕ
exit_number Done = 0
exit_number NoMemory = 1
exit_number (Words word) = 2
exit_number ReadFault = 3
exit_number WriteFault = 4
exit_number (Sync input packet) = 5
exit_number TooLong = 6
