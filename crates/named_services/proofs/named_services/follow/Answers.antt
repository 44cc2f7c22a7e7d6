use Rattle.std.proofs.Common.{[], ◌∷◌, ◌++◌, sym, ◌∙◌, ap, length}
use Rattle.named_services.proofs.NameLemmas.{meant-stays, no-tables}
use Rattle.named_services.proofs.SdtLemmas.{sdt-stays}
use Rattle.named_services.proofs.named_services.follow.Goals as goal

pub returns-then-stays-clause-fed : goal.returns-then-stays-clause-fed
returns-then-stays-clause-fed c = λ fed w. c.in_ok-tables.ensures.stands fed w

pub returns-then-stays-clause-meant : goal.returns-then-stays-clause-meant
returns-then-stays-clause-meant c = λ fed named w forced same are.
    let none = c.stays.ensures.stays c.if-stays.true in
    meant-stays c.args.words.now c.args.meant.now fed (fed ++ c.args.packet.now ∷ [])
    (sdt-stays fed c.args.packet.now c.in_ok-tables.tables.items (c.in_ok-tables.ensures.completes fed w)
    (no-tables c.in_ok-tables.tables.items (ap length (sym c.deref.ensures.value) ∙ none.1)) (same none.0).pat) are

pub returns-clause-fed : goal.returns-clause-fed
returns-clause-fed c = λ fed w. c.in_ok-tables.ensures.stands fed w

pub returns-clause-meant : goal.returns-clause-meant
returns-clause-meant c = λ fed named w forced same are. c.in_ok-now.ensures (fed ++ c.args.packet.now ∷ []) (c.in_ok-tables.ensures.stands fed w) forced named

pub returns-in_err-now-clause-quiet : goal.returns-in_err-now-clause-quiet
returns-in_err-now-clause-quiet c = λ other none.
    absurd (c.stays.ensures.changes c.if-stays.false none (ap length c.deref.ensures.value ∙ c.in_ok-tables.ensures.none other))

pub returns-clause-quiet : goal.returns-clause-quiet
returns-clause-quiet c = λ other none.
    absurd (c.stays.ensures.changes c.if-stays.false none (ap length c.deref.ensures.value ∙ c.in_ok-tables.ensures.none other))
