use denote.RattleType.{RattleType}
use denote.Param.Send.{IsSend, Frees}
use Rattle.std.specs.declared.alloc.Allocator.{Ghosts}
use Rattle.ts_land.proofs.Sending.{owner-send}
use Rattle.ts_land.specs.contracts.owner.Owner as C

pub send : (T A : RattleType) (g : Ghosts A.Denot) → IsSend T → IsSend A → Frees g g.dealloc_token → IsSend (C.the_row T A g)
send = owner-send
