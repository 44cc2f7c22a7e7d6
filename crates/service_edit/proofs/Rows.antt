-- Worked rows: which packets are edited, computed on the definitions.
use Rattle.std.proofs.Common.{◌≡◌, None, Some, true, false, refl}
use Rattle.service_edit.specs.ServiceRule.{is_at}

-- the PID of the first entry, another PID, and that of null packets
own-pid : is_at (Some 4096) 4096 ≡ true
own-pid = refl

other-pid : is_at (Some 4096) 4097 ≡ false
other-pid = refl

null-pid : is_at (Some 8191) 8191 ≡ false
null-pid = refl

no-entry : is_at None 4096 ≡ false
no-entry = refl
