use Rattle.std.proofs.Common.{[], rules}
use Rattle.varied_edits.proofs.varied_pids.take_first.Goals as goal

pub returns-clause-replaced : goal.returns-clause-replaced
returns-clause-replaced g c = λ edits e. c.in_ok-new.ensures.replaced c.args.pid edits [] (c.in_ok-entry.ensures edits) e

pub returns-clause-stands : goal.returns-clause-stands
returns-clause-stands g c = λ edits e.
    let done = c.in_ok-new.ensures.stands c.args.pid edits [] (c.in_ok-entry.ensures edits) e in
    search (rules, done)
