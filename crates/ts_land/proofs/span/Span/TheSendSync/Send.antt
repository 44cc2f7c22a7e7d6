use denote.RattleType.{RattleType}
use denote.Param.Send.{IsSend}
use Rattle.ts_land.proofs.Sending.{span-send}
use Rattle.ts_land.specs.contracts.span.Span as C

pub send : (T : RattleType) → IsSend T → IsSend (C.the_row T)
send = span-send
