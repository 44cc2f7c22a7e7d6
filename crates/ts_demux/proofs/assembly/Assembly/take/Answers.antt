use Rattle.std.proofs.Common.{◌≡◌, ap, sym, ◌∙◌, refl, subst}
use Rattle.ts_demux.specs.Keys.{key_of, key_of_head}
use Rattle.ts_demux.specs.Tables.{era_of}
use Rattle.ts_demux.specs.AssemblyState.{AssemblyState, StandsFor}
use Rattle.ts_demux.proofs.Assembling.{table_at-alone, table_at-together, stands-alone, stands-together_at, entry_at}
use Rattle.ts_demux.proofs.ErasLemmas.{era_belongs}
use Rattle.ts_demux.proofs.assembly.Assembly.take.Goals as goal

pub returns-in_default-clause-completes : goal.returns-in_default-clause-completes
returns-in_default-clause-completes c =
    λ before stands. c.in_ok-table.ensures ∙ sym (table_at-alone before c.args.section c.in_default.ensures.alone)

pub returns-in_default-clause-stands : goal.returns-in_default-clause-stands
returns-in_default-clause-stands c =
    λ before. stands-alone c.args.self.now before c.args.section c.in_default.ensures.alone

pub returns-clause-completes : goal.returns-clause-completes
returns-clause-completes c =
    λ before stands.
    (let old : AssemblyState = record { eras = c.self.inside.eras.entries; failed = c.self.inside.failed } in
    let inside : StandsFor old before = subst (λ v. StandsFor v before) (sym c.self.view_is) stands in
    let key : c.of-key.result ≡ key_of c.args.section = c.of-key.ensures ∙ ap key_of_head c.in-Some.ensures.head in
    let entry = entry_at old before c.args.section c.of-key.result c.in-Some.head key c.in-Some.ensures.head c.in-Some.ensures.together inside in
    let begun = c.in_ok-begin_era.ensures.stands (era_of before c.args.section) entry in
    c.in_ok-table-2.ensures.table (era_of before c.args.section) begun (era_belongs before c.args.section c.in-Some.ensures.together)
    ∙ sym (table_at-together before c.args.section c.in-Some.ensures.together))

pub returns-clause-stands : goal.returns-clause-stands
returns-clause-stands c =
    λ before stands.
    (let old : AssemblyState = record { eras = c.self.inside.eras.entries; failed = c.self.inside.failed } in
    let new : AssemblyState = record { eras = c.add_to_era.new.eras.entries; failed = c.self.inside.failed } in
    let inside : StandsFor old before = subst (λ v. StandsFor v before) (sym c.self.view_is) stands in
    let key : c.of-key.result ≡ key_of c.args.section = c.of-key.ensures ∙ ap key_of_head c.in-Some.ensures.head in
    let entry = entry_at old before c.args.section c.of-key.result c.in-Some.head key c.in-Some.ensures.head c.in-Some.ensures.together inside in
    let begun = c.in_ok-begin_era.ensures.stands (era_of before c.args.section) entry in
    stands-together_at old new before c.args.section c.of-key.result key c.in-Some.ensures.together refl
    c.in_ok-table-2.ensures.has_era (c.in_ok-table-2.ensures.stands (era_of before c.args.section) begun)
    (λ other o. c.in_ok-table-2.ensures.others other o ∙ c.in_ok-begin_era.ensures.others other o) inside)
