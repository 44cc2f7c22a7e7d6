use Rattle.std.proofs.Common.{[], ◌∷◌, ◌++◌, sym, refl}
use Rattle.ts_packet.specs.Cells.{live_packets}
use Rattle.plug_analyze.specs.declared.change.Change.{Change}
use Rattle.plug_analyze.proofs.ServicesKeeping.{serves_change, serves_same}
use Rattle.plug_analyze.proofs.services.Services.meet.Goals as goal

pub returns-then-not-branch-clause-serves : goal.returns-then-not-branch-clause-serves
returns-then-not-branch-clause-serves c = λ history mark w count labels.
    serves_same c.args.self.now _ history mark w c.args.packet.now labels (c.in_ok-update.ensures.stands (live_packets history) w.fed) refl
    (c.in_ok-update.ensures.same c.if-not-branch.true (live_packets history) w.fed) refl

pub returns-clause-serves : goal.returns-clause-serves
returns-clause-serves c = λ history mark w count labels.
    let change : Change = record { at = c.args.at; services = c.in_ok-services.services } in
    let fed = c.in_ok-update.ensures.stands (live_packets history) w.fed in
    serves_change c.args.self.now _ history mark w c.args.packet.now labels fed refl change (sym count)
    (c.in_ok-services.ensures (live_packets history ++ c.args.packet.now ∷ []) fed) c.in_ok-push_note.ensures.ok
