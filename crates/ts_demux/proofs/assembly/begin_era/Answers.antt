use Rattle.std.proofs.Common.{◌≡◌, ap, sym, ◌∙◌, false}
use Rattle.indexmap.specs.IndexMap.{get}
use Rattle.ts_demux.specs.Keys.{key_eq}
use Rattle.ts_demux.specs.Era.{entry_goes_on}
use Rattle.ts_demux.proofs.EraEntries.{has_of_test, stands_of_test, none_of_test, stands_of_fresh}
use Rattle.ts_demux.proofs.assembly.begin_era.Goals as goal

pub returns-in_ok-insert-clause-stands : goal.returns-in_ok-insert-clause-stands
returns-in_ok-insert-clause-stands c =
    λ sections entry.
    (let test : entry_goes_on (get key_eq c.args.eras.now c.args.key) c.args.head.now.version c.args.head.now.last ≡ false =
    ap (λ o. entry_goes_on o c.args.head.now.version c.args.head.now.last) (sym c.get.ensures.value) ∙ sym c.goes_on.ensures ∙ c.if-not-goes_on.true in
    stands_of_fresh (get key_eq c.insert.new.self c.args.key) c.in_ok-era.era sections c.in_ok-insert.ensures.updates.1 c.in_ok-era.ensures.fresh
    (none_of_test (get key_eq c.args.eras.now c.args.key) c.args.head.now.version c.args.head.now.last sections test entry))

pub returns-else-not-goes_on-clause-has_era : goal.returns-else-not-goes_on-clause-has_era
returns-else-not-goes_on-clause-has_era c =
    has_of_test (get key_eq c.args.eras.now c.args.key) c.args.head.now.version c.args.head.now.last
    (ap (λ o. entry_goes_on o c.args.head.now.version c.args.head.now.last) (sym c.get.ensures.value) ∙ sym c.goes_on.ensures ∙ c.if-not-goes_on.false)

pub returns-else-not-goes_on-clause-stands : goal.returns-else-not-goes_on-clause-stands
returns-else-not-goes_on-clause-stands c =
    λ sections. stands_of_test (get key_eq c.args.eras.now c.args.key) c.args.head.now.version c.args.head.now.last sections
    (ap (λ o. entry_goes_on o c.args.head.now.version c.args.head.now.last) (sym c.get.ensures.value) ∙ sym c.goes_on.ensures ∙ c.if-not-goes_on.false)
