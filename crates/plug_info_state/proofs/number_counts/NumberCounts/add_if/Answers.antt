use Rattle.std.proofs.Common.{◌+◌, ◌==◌, ◌&&◌, Bool, ap, sym, ◌∙◌}
use Rattle.std.specs.Prelude.{min}
use Rattle.plug_info_state.specs.EitStands.{count_of, counted}
use Rattle.plug_info_state.proofs.EitLemmas.{counted-is}
use Rattle.plug_info_state.proofs.number_counts.NumberCounts.add_if.Goals as goal

pub returns-clause-counted : goal.returns-clause-counted
returns-clause-counted c = λ other.
    c.in_ok-set.ensures.is other
    ∙ (counted-is c.args.id other c.one_more-next.result (count_of c.args.self.now)
    (c.one_more-next.ensures ∙ ap (λ n. min (n + 1) 18446744073709551615) c.of.ensures)
    ∙ ap (λ (b : Bool). counted (b && (c.args.id == other)) (count_of c.args.self.now other)) (sym c.if-not-is_one.false))
