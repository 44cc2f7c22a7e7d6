use Rattle.std.proofs.Common.{◌+◌, ◌++◌, ◌∙◌, ℕ, List, ap, drop, sym}
use Rattle.std.proofs.lemmas.List.{at_drop_more, drop_all}
use Rattle.plug_inject.specs.Contents.{Group, grouped, groups_of_pairs, of_no_pair, packed_each}
use Rattle.plug_inject.proofs.GroupLemmas.{group-added, groups-end, groups-more}
use Rattle.plug_inject.proofs.group.groups.Goals as goal

pub loop-pair-preserved : goal.loop-pair-preserved
loop-pair-preserved c =
    let pid = c.args.pid in
    let sections = c.args.sections.now in
    let list = c.loop-pair.list.items in
    let at = c.loop-pair.pair-index in
    let pairs = c.args.pairs.now in
    let rest = drop (at + 1) pairs in
    ap (λ (l : List Group). l ++ groups_of_pairs pid sections rest) (group-added pid sections list c.from_ref.ensures.value c.in_ok-own.ensures c.in_ok-add_group.ensures)
    ∙ groups-more pid sections _ rest list
    ∙ sym (at_drop_more (λ (left : List (ℕ × ℕ)). list ++ groups_of_pairs pid sections left) pairs at _ c.loop-pair-test.true)
    ∙ c.loop-pair.invariant

pub returns : goal.returns
returns c =
    let pid = c.args.pid in
    let sections = c.args.sections.now in
    let pairs = c.args.pairs.now in
    let list = c.loop-pair.list.items in
    c.in_ok-add_group-2.ensures
    ∙ ap (λ (own : List (List (List ℕ))). list ++ grouped 1 own) c.in_ok-others.ensures
    ∙ ap (λ (l : List Group). l ++ grouped 1 (packed_each pid (of_no_pair pairs sections)))
    (groups-end pid sections list
    ∙ ap (λ (left : List (ℕ × ℕ)). list ++ groups_of_pairs pid sections left) (sym (drop_all c.loop-pair.pair-index pairs c.loop-pair-test.false))
    ∙ c.loop-pair.invariant)
