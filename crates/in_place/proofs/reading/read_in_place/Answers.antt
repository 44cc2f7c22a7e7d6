use Rattle.std.proofs.Common.{◌≡◌, ◌-◌, ◌*◌, length, take, ap, ◌∙◌, arith}
use Rattle.ts_land.specs.Opening.{joined, rows_of}
use Rattle.in_place.proofs.Rows.{joined_take, whole, as_packets}
use Rattle.ts_land.proofs.OpenLemmas.{rows_long}
use Rattle.in_place.proofs.reading.read_in_place.Goals as goal

pub returns-clause-long : goal.returns-clause-long
returns-clause-long g c = ap (λ w. length w.cells) c.shut.ensures.shut ∙ rows_long _ _ ∙ ap (λ w. w.slots) c.open-opened.ensures.lent

pub returns-clause-reads : goal.returns-clause-reads
returns-clause-reads g c =
    let k = c.fill-count.result.0 in let o = c.open-opened.result in let xs = c.fill-count.new.bytes in
    let fl = c.fill-count.ensures.long in let rows = c.len-rows.ensures in let oe = c.open-opened.ensures.lent in let ol = c.open-opened.ensures.long in let slots = ap (λ w. w.slots) oe in
    let l : length xs ≡ length o.bytes = omega (arith, fl, rows, ol) in let same = whole xs o.bytes l in let le = c.fill-count.ensures.within.0 in
    let cells : c.shut.result.cells ≡ rows_of o.slots xs = ap (λ w. w.cells) c.shut.ensures.shut ∙ ap (rows_of o.slots) same in
    let packets : joined (take k c.shut.result.cells) ≡ take (k * 188) xs = ap (λ ys. joined (take k ys)) cells ∙ joined_take k o.slots xs (omega (arith, le, rows, slots)) in
    as_packets _ _ _ _ _ _ _ packets c.fill-count.ensures.reads
