use Rattle.std.proofs.Common.{refl}
use Rattle.ts_outside.specs.Desk.{content}
use Rattle.switch_top.proofs.switching.seat_file.Goals as goal

pub returns-in-Ok-clause-opened : goal.returns-in-Ok-clause-opened
returns-in-Ok-clause-opened g c = λ old name is. (refl, c.in-Ok.ensures.opened (content old name) is)
