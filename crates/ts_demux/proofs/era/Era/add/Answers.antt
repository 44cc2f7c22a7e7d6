use Rattle.std.proofs.Common.{ap, sym, ◌∙◌, refl, is_some}
use Rattle.std.specs.List.{list_all, filter_map}
use Rattle.ts_demux.proofs.WholeEra.{era-given, era-open, era-full, table-open, table-full}
use Rattle.ts_demux.proofs.era.Era.add.Goals as goal

pub returns-then-self-clause-era : goal.returns-then-self-clause-era
returns-then-self-clause-era c = λ era is. era-given c.args.self.now _ era c.args.section is c.if-self.true refl refl

pub returns-then-not-are_all_there-clause-era : goal.returns-then-not-are_all_there-clause-era
returns-then-not-are_all_there-clause-era c =
    λ era. era-open c.args.self.now _ era c.args.section c.from-place.result c.keep_first.new.firsts.items
    c.if-self.false (c.from-place.ensures ∙ c.requires.number) c.keep_first.ensures
    (ap (list_all is_some) (sym c.deref.ensures.value) ∙ sym c.are_all_there.ensures ∙ c.if-not-are_all_there.true) refl c.if-self.false refl

pub returns-then-not-are_all_there-clause-table : goal.returns-then-not-are_all_there-clause-table
returns-then-not-are_all_there-clause-table c =
    λ era is belong. table-open c.args.self.now era c.args.section c.from-place.result c.keep_first.new.firsts.items
    c.if-self.false (c.from-place.ensures ∙ c.requires.number) c.keep_first.ensures
    (ap (list_all is_some) (sym c.deref.ensures.value) ∙ sym c.are_all_there.ensures ∙ c.if-not-are_all_there.true) c.requires.last is

pub returns-clause-era : goal.returns-clause-era
returns-clause-era c =
    λ era. era-full c.args.self.now _ era c.args.section c.from-place.result c.keep_first.new.firsts.items
    c.if-self.false (c.from-place.ensures ∙ c.requires.number) c.keep_first.ensures
    (ap (list_all is_some) (sym c.deref.ensures.value) ∙ sym c.are_all_there.ensures ∙ c.if-not-are_all_there.false) refl refl

pub returns-clause-table : goal.returns-clause-table
returns-clause-table c =
    λ era. table-full c.args.self.now era c.args.section c.from-place.result c.keep_first.new.firsts.items c.in_ok-sections.sections.items c.of.result c.ok.result
    c.if-self.false (c.from-place.ensures ∙ c.requires.number) c.keep_first.ensures
    (ap (list_all is_some) (sym c.deref.ensures.value) ∙ sym c.are_all_there.ensures ∙ c.if-not-are_all_there.false) c.requires.last
    (c.in_ok-sections.ensures ∙ ap (λ v. filter_map (λ first. first) v.items) c.replace-firsts.ensures.value) c.of.ensures.same c.of.ensures.refused c.ok.ensures.value
