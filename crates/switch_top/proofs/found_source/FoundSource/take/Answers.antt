use Rattle.std.proofs.Common.{◌≡◌, ◌∙◌, ◌+◌, ◌==◌, ℕ, suc, false, [], length, take, min, option_to_list, ap, sym, subst, arith, length-take-le}
use Rattle.std.proofs.lemmas.Bool.{eqb-true, eq-eqb}
use Rattle.ts_outside.specs.Count.{count_end}
use Rattle.search_source.specs.SearchView.{SearchView, search_view, search_failed, plain, IsWithin}
use Rattle.switch_top.specs.LeftOut.{bytes_of_gaps}
use Rattle.switch_top.proofs.FoundLemmas.{after-read, plain-given, plain-failed, same-file, within-more}
use Rattle.switch_top.proofs.found_source.FoundSource.take.Goals as goal

pub invariant_of-self : goal.invariant_of-self
invariant_of-self g c =
    let old = c.args.self.now in
    let new = c.read.new.self in
    let a = after-read (search_view old.source.finder (g.S.Source.seen old.source.first.value) (g.S.Source.seen old.source.source))
    new.finder (g.S.Source.seen new.first.value) (g.S.Source.seen new.source) old.left_out c.with_gap-left_out.result (c.in-Ok.count == 0)
    (take c.in-Ok.count c.read.new.into) (option_to_list old.source.finder.noted) old.counts old.small old.few c.in-Ok.ensures.found
    (c.with_gap-left_out.ensures ∙ ap (λ gap. min (old.left_out + bytes_of_gaps (option_to_list gap)) count_end) c.gap.ensures)
    (λ e. c.in-Ok.ensures.at_end (eqb-true _ _ e)) in
    record { counts = a.counts; at_end = a.at_end; small = a.small; few = a.few }

pub invariant_of-self-in-Err : goal.invariant_of-self-in-Err
invariant_of-self-in-Err g c =
    let old = c.args.self.now in
    let new = c.read.new.self in
    let a = after-read (search_failed (search_view old.source.finder (g.S.Source.seen old.source.first.value) (g.S.Source.seen old.source.source)))
    new.finder (g.S.Source.seen new.first.value) (g.S.Source.seen new.source) old.left_out c.with_gap-left_out.result false
    [] (option_to_list old.source.finder.noted) old.counts old.small old.few c.in-Err.ensures.found
    (c.with_gap-left_out.ensures ∙ ap (λ gap. min (old.left_out + bytes_of_gaps (option_to_list gap)) count_end) c.gap.ensures)
    (λ e. cc) in
    record { counts = a.counts; at_end = a.at_end; small = a.small; few = a.few }

pub returns-in-Ok-clause-moved : goal.returns-in-Ok-clause-moved
returns-in-Ok-clause-moved g c =
    plain-given _ _ (take c.in-Ok.count c.read.new.into) (option_to_list c.args.self.now.source.finder.noted) c.in-Ok.ensures.found

pub returns-in-Ok-clause-file : goal.returns-in-Ok-clause-file
returns-in-Ok-clause-file g c =
    same-file _ _ (take c.in-Ok.count c.read.new.into) (option_to_list c.args.self.now.source.finder.noted) c.in-Ok.ensures.found

pub returns-in-Ok-clause-nearer : goal.returns-in-Ok-clause-nearer
returns-in-Ok-clause-nearer g c = λ reads within.
    let count : ℕ = c.in-Ok.count in
    let next : suc reads ≡ reads + 1 = omega arith in
    let long : length (take count c.read.new.into) ≡ count = length-take-le count c.read.new.into c.in-Ok.ensures.within in
    let view : SearchView = search_view c.read.new.self.finder (g.S.Source.seen c.read.new.self.first.value) (g.S.Source.seen c.read.new.self.source) in
    subst (λ n. IsWithin (plain view).left n (count == 0)) next
    (within-more _ view (take count c.read.new.into) (option_to_list c.args.self.now.source.finder.noted) reads (count == 0) c.in-Ok.ensures.found
    (λ none. eq-eqb count 0 (sym long ∙ none)) within)

pub returns-in-Err-clause-failed : goal.returns-in-Err-clause-failed
returns-in-Err-clause-failed g c =
    let old = c.args.self.now in
    plain-failed (search_view old.source.finder (g.S.Source.seen old.source.first.value) (g.S.Source.seen old.source.source)) (search_view c.read.new.self.finder (g.S.Source.seen c.read.new.self.first.value) (g.S.Source.seen c.read.new.self.source)) (option_to_list c.args.self.now.source.finder.noted) c.in-Err.ensures.found

pub returns-in-Err-clause-file : goal.returns-in-Err-clause-file
returns-in-Err-clause-file g c = same-file _ _ [] (option_to_list c.args.self.now.source.finder.noted) c.in-Err.ensures.found
