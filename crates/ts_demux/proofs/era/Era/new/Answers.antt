use Rattle.std.proofs.Common.{◌≡◌, refl, ◌∙◌, ap, false, replicate, None, ◌+◌}
use Rattle.ts_demux.specs.declared.era.Era.{Era}
use Rattle.ts_demux.proofs.WholeEra.{era-fresh}
use Rattle.ts_demux.proofs.era.Era.new.Goals as goal

pub returns-clause-fresh : goal.returns-clause-fresh
returns-clause-fresh c =
    let kept : c.in_ok-firsts.firsts.items ≡ replicate (c.args.last + 1) None = c.in_ok-firsts.ensures ∙ ap (λ n. replicate (n + 1) None) c.from-numbers.ensures in
    let e : Era = record { version = c.args.version; last = c.args.last; given = false; firsts = c.in_ok-firsts.firsts; crcs = c.new.result } in
    era-fresh e c.args.last refl refl kept
