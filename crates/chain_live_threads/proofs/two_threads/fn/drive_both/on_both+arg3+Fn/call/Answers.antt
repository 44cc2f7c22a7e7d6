use Rattle.std.proofs.Common.{rules}
use Rattle.chain_live_threads.proofs.two_threads.fn.drive_both.on_both+arg3+Fn.call.Goals as goal

pub on_both+arg3-requires : goal.on_both+arg3-requires
on_both+arg3-requires g c = (search rules, (search rules, (search rules, (search rules, (search rules, (search rules, (search rules, (search rules, search rules))))))))
