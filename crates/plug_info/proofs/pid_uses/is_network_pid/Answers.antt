use Rattle.std.proofs.Common.{ap, sym, ◌∙◌}
use Rattle.std.specs.Prelude.{option_map}
use Rattle.std.specs.Option.{option_copied}
use Rattle.ts_psi.specs.PatTables.{pat_held}
use Rattle.plug_info.specs.PidUses.{is_pid, network_pid_in}
use Rattle.plug_info.proofs.UseLemmas.{network-is}
use Rattle.plug_info.proofs.pid_uses.is_network_pid.Goals as goal

pub returns-in-Some : goal.returns-in-Some
returns-in-Some c =
    c.is_number.ensures
    ∙ (ap (λ n. is_pid n c.args.pid) (sym (network-is c.in-Some.pat.now))
    ∙ ap (λ o. is_pid (network_pid_in (option_map pat_held (option_copied o))) c.args.pid) (sym c.in-Some.is))
