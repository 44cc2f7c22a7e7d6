use Rattle.std.proofs.Common.{◌≡◌, drop}
use Rattle.ts_outside.specs.Desk.{file_of}
use Rattle.ts_outside.proofs.file_list.FileList.bytes_of.Given as goal

abbrev pub invariant-loop-file : goal.invariant-loop-file
invariant-loop-file l = file_of l.self l.name ≡ file_of (drop l.file-index l.file-items) l.name
