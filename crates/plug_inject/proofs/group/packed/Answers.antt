use Rattle.std.proofs.Common.{◌+◌, ◌++◌, ◌∙◌, ◌∷◌, [], ℕ, Bool, List, ap, append-nil, drop, filter, sym}
use Rattle.std.specs.Prelude.{if◌then◌else◌}
use Rattle.std.proofs.lemmas.List.{at_drop_more, drop_all}
use Rattle.ts_packetize.specs.Packets.{packets_of}
use Rattle.plug_inject.specs.Contents.{packed_each}
use Rattle.plug_inject.specs.GroupsMade.{named_or_not}
use Rattle.plug_inject.proofs.GroupLemmas.{packed-more}
use Rattle.plug_inject.proofs.group.packed.Goals as goal

pub loop-section-preserved : goal.loop-section-preserved
loop-section-preserved c =
    let test = named_or_not c.args.pairs.now c.args.named in
    let list = c.loop-section.list.items in
    let at = c.loop-section.section-index in
    let sections = c.args.sections.now in
    let section = c.section-item.result in
    let rest = drop (at + 1) sections in
    ap (λ (l : List (List (List ℕ))). l ++ packed_each c.args.pid (filter test rest))
    (c.in_ok-add_packed.ensures ∙ ap (λ (b : Bool). list ++ (if b then packets_of c.args.pid (section ∷ []) ∷ [] else [])) c.is_wanted-wanted.ensures)
    ∙ sym (packed-more c.args.pid (test section) section (filter test rest) list)
    ∙ ap (λ (s : List ℕ). list ++ packed_each c.args.pid (filter test (s ∷ rest))) c.section-item.is
    ∙ sym (at_drop_more (λ (left : List (List ℕ)). list ++ packed_each c.args.pid (filter test left)) sections at section c.loop-section-test.true)
    ∙ c.loop-section.invariant

pub returns : goal.returns
returns c =
    let test = named_or_not c.args.pairs.now c.args.named in
    sym (append-nil c.loop-section.list.items)
    ∙ ap (λ (left : List (List ℕ)). c.loop-section.list.items ++ packed_each c.args.pid (filter test left)) (sym (drop_all c.loop-section.section-index c.args.sections.now c.loop-section-test.false))
    ∙ c.loop-section.invariant
