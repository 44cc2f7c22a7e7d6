use Rattle.std.proofs.Common.{inl, [], ◌∷◌, arith}
use Rattle.window_ring.specs.Views.{holding}
use Rattle.window_ring.specs.Seats.{seen_of}
use Rattle.window_ring.proofs.Gathers.{Laws, taken, last_after, last_same, last_fits, all_since, all_cells, no_links}
use Rattle.window_ring.proofs.ring.Ring.close.Goals as goal

pub gather-links-requires-clause-covering : goal.gather-links-requires-clause-covering
gather-links-requires-clause-covering c =
    let laws : Laws = record { changes = c.one_visit.ensures.changes; leaves = c.one_visit.ensures.leaves; hold = c.news_promises.ensures.hold } in let w = c.requires.whole in let q = c.requires.root in let all = w.all in
    let x = taken laws w.valid w.seats_are (omega (arith, all)) tt (λ k le. inl (omega (arith, le, all))) c.pop.ensures.items c.in-Some.is (λ k seen busy e. c.take_back.ensures.joined q.0 [] k seen busy q.1 e) in
    (q.0, holding c.in-Some.last.stage (seen_of c.in-Some.last) ∷ [], x.root_is, x.more)

pub destroy_empty-requires-2 : goal.destroy_empty-requires-2
destroy_empty-requires-2 c =
    let laws : Laws = record { changes = c.one_visit.ensures.changes; leaves = c.one_visit.ensures.leaves; hold = c.news_promises.ensures.hold } in let w = c.requires.whole in let q = c.requires.root in let all = w.all in
    let x = taken laws w.valid w.seats_are (omega (arith, all)) tt (λ k le. inl (omega (arith, le, all))) c.pop.ensures.items c.in-Some.is (λ k seen busy e. c.take_back.ensures.joined q.0 [] k seen busy q.1 e) in
    let g = c.gather-links.ensures q.0 (holding c.in-Some.last.stage (seen_of c.in-Some.last) ∷ []) x.root_is x.more in
    let none = no_links x g all in omega (arith, none)

pub with-requires-clause-behind : goal.with-requires-clause-behind
with-requires-clause-behind c =
    let laws : Laws = record { changes = c.one_visit.ensures.changes; leaves = c.one_visit.ensures.leaves; hold = c.news_promises.ensures.hold } in let w = c.requires.whole in let q = c.requires.root in let all = w.all in
    let x = taken laws w.valid w.seats_are (omega (arith, all)) tt (λ k le. inl (omega (arith, le, all))) c.pop.ensures.items c.in-Some.is (λ k seen busy e. c.take_back.ensures.joined q.0 [] k seen busy q.1 e) in
    let g = c.gather-links.ensures q.0 (holding c.in-Some.last.stage (seen_of c.in-Some.last) ∷ []) x.root_is x.more in
    last_after x g

pub with-requires-clause-same : goal.with-requires-clause-same
with-requires-clause-same c =
    let laws : Laws = record { changes = c.one_visit.ensures.changes; leaves = c.one_visit.ensures.leaves; hold = c.news_promises.ensures.hold } in let w = c.requires.whole in let q = c.requires.root in let all = w.all in
    let x = taken laws w.valid w.seats_are (omega (arith, all)) tt (λ k le. inl (omega (arith, le, all))) c.pop.ensures.items c.in-Some.is (λ k seen busy e. c.take_back.ensures.joined q.0 [] k seen busy q.1 e) in
    let g = c.gather-links.ensures q.0 (holding c.in-Some.last.stage (seen_of c.in-Some.last) ∷ []) x.root_is x.more in
    last_same x g

pub with-requires-clause-fits : goal.with-requires-clause-fits
with-requires-clause-fits c =
    let laws : Laws = record { changes = c.one_visit.ensures.changes; leaves = c.one_visit.ensures.leaves; hold = c.news_promises.ensures.hold } in let w = c.requires.whole in let q = c.requires.root in let all = w.all in
    let x = taken laws w.valid w.seats_are (omega (arith, all)) tt (λ k le. inl (omega (arith, le, all))) c.pop.ensures.items c.in-Some.is (λ k seen busy e. c.take_back.ensures.joined q.0 [] k seen busy q.1 e) in
    let g = c.gather-links.ensures q.0 (holding c.in-Some.last.stage (seen_of c.in-Some.last) ∷ []) x.root_is x.more in
    last_fits x g

pub close-requires : goal.close-requires
close-requires c =
    let laws : Laws = record { changes = c.one_visit.ensures.changes; leaves = c.one_visit.ensures.leaves; hold = c.news_promises.ensures.hold } in let w = c.requires.whole in let q = c.requires.root in let all = w.all in
    let x = taken laws w.valid w.seats_are (omega (arith, all)) tt (λ k le. inl (omega (arith, le, all))) c.pop.ensures.items c.in-Some.is (λ k seen busy e. c.take_back.ensures.joined q.0 [] k seen busy q.1 e) in
    let g = c.gather-links.ensures q.0 (holding c.in-Some.last.stage (seen_of c.in-Some.last) ∷ []) x.root_is x.more in
    all_cells x g all c.with.result c.with.ensures

pub returns : goal.returns
returns c =
    let laws : Laws = record { changes = c.one_visit.ensures.changes; leaves = c.one_visit.ensures.leaves; hold = c.news_promises.ensures.hold } in let w = c.requires.whole in let q = c.requires.root in let all = w.all in
    let x = taken laws w.valid w.seats_are (omega (arith, all)) tt (λ k le. inl (omega (arith, le, all))) c.pop.ensures.items c.in-Some.is (λ k seen busy e. c.take_back.ensures.joined q.0 [] k seen busy q.1 e) in
    let g = c.gather-links.ensures q.0 (holding c.in-Some.last.stage (seen_of c.in-Some.last) ∷ []) x.root_is x.more in
    record { history = g.history; run = g.run; since = λ k d le. all_since x g k d (omega (arith, le, all)); closed_is = g.parted.closed }
