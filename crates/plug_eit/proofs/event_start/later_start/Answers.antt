use Rattle.std.proofs.Common.{◌∙◌, ap, of_z, option_map, sym, to_z, unwrap_or, w64, Some}
use Rattle.std.proofs.lemmas.Int.{to_z-of_z}
use Rattle.ts_eit.specs.EventTimes.{start_bits}
use Rattle.plug_eit.specs.EventStart.{later_start, seconds_bits}
use Rattle.plug_eit.proofs.EventStartLemmas.{later-is}
use Rattle.plug_eit.proofs.event_start.later_start.Goals as goal

pub returns-in-Some : goal.returns-in-Some
returns-in-Some c =
    c.start_of.ensures
    ∙ ap (λ o. unwrap_or (option_map seconds_bits o) (start_bits (Some c.args.start))) (sym c.in-Some.is ∙ c.later_seconds.ensures.held)
    ∙ sym (later-is (to_z w64 (of_z w64 c.args.shift)) c.args.start)
    ∙ ap (λ shift. later_start shift (start_bits (Some c.args.start))) (to_z-of_z w64 c.args.shift c.ranges.shift)

pub returns-in-None : goal.returns-in-None
returns-in-None c =
    ap (λ o. unwrap_or (option_map seconds_bits o) (start_bits (Some c.args.start))) (sym c.in-None.is ∙ c.later_seconds.ensures.held)
    ∙ sym (later-is (to_z w64 (of_z w64 c.args.shift)) c.args.start)
    ∙ ap (λ shift. later_start shift (start_bits (Some c.args.start))) (to_z-of_z w64 c.args.shift c.ranges.shift)
