use Rattle.std.proofs.Common.{◌≡◌, ◌<◌, take}
use Rattle.ts_packet.specs.declared.numbers.TheConstants.{PID_COUNT}
use Rattle.plug_edit.specs.PmtEdit.{moved_by}
use Rattle.plug_edit.proofs.pmt_edit.moved_pid.Given as goal

abbrev pub invariant-loop-pair : goal.invariant-loop-pair
invariant-loop-pair l = (l.becomes ≡ moved_by l.pid (take l.pair-index l.pairs)) × (l.becomes < PID_COUNT)
