use Rattle.std.proofs.Common.{◌≡◌, ⊎_elim, ◌∷◌, length, sym, ap, ◌∙◌, subst, arith, refl}
use Rattle.chain_core.specs.declared.core_plan.CorePlan.{CorePlan}
use Rattle.chain_core.specs.Machine.{progress_of_stages}
use Rattle.chain_core.specs.ChainRun.{state_after}
use Rattle.chain_core.specs.Close.{closed_of}
use Rattle.window_ring.specs.Views.{holding}
use Rattle.window_ring.specs.Seats.{seen_of}
use Rattle.window_ring.specs.Closing.{CoversAll, Parted}
use Rattle.window_ring.proofs.Gathers.{Laws, taken, last_after, last_same, last_fits, some_link, before_after, before_same, before_fits, gathered_more, longer, all_ended, first_left, head_off}
use Rattle.window_ring.proofs.ring.Ring.+gather.Goals as goal

pub close-closed-requires : goal.close-closed-requires
close-closed-requires t c =
    let o = c.one_visit.ensures in let n = c.news_promises.ensures in let key = c.args.self.table.shared.key in let q = c.requires.covering in let cov = q.3 in
    let none : length c.args.seats.items ≡ 0 = omega (arith, c.in_default.ensures.cases.0) in
    let all : CoversAll key q.1 = λ k le. ⊎_elim (λ lt. absurd (omega (arith, lt, none))) (λ h. h) (cov.covers k le) in
    all_ended key c.args.self.table.shared.table_id cov.valid o.changes o.leaves n.hold q.1 c.value-value.result (c.value-value.ensures q.0 q.1 q.2 all) cov.done all

pub remove-all-requires : goal.remove-all-requires
remove-all-requires t c =
    let key = c.args.self.table.shared.key in let q = c.requires.covering in let cov = q.3 in
    let none : length c.args.seats.items ≡ 0 = omega (arith, c.in_default.ensures.cases.0) in
    let all : CoversAll key q.1 = λ k le. ⊎_elim (λ lt. absurd (omega (arith, lt, none))) (λ h. h) (cov.covers k le) in
    let count = (c.value-value.ensures q.0 q.1 q.2 all).stands.count in omega (arith, count)

pub returns-in_default : goal.returns-in_default
returns-in_default t c = λ made held root cov.
    let o = c.one_visit.ensures in let n = c.news_promises.ensures in let key = c.args.self.table.shared.key in
    let none : length c.args.seats.items ≡ 0 = omega (arith, c.in_default.ensures.cases.0) in
    let all : CoversAll key held = λ k le. ⊎_elim (λ lt. absurd (omega (arith, lt, none))) (λ h. h) (cov.covers k le) in
    let v = c.value-value.ensures made held root all in
    let is : c.value-value.result.links.items ≡ c.remove-all.result ∷ c.remove-all.new.self.items = head_off c.value-value.result.links.items c.remove-all.new.self.items c.remove-all.result (let m = v.stands.count in omega (arith, m)) c.remove-all.ensures.value c.remove-all.ensures.items in
    record {
      history = v.history;
      run = v.run;
      held_since = v.since;
      seats_since = λ k d lt. absurd (omega (arith, lt, none));
      parted = subst (λ j. Rattle.window_ring.specs.Closing.Parted key (state_after key.plan v.history) j (record { links = c.remove-all.new.self; all = c.remove-all.result; closed = c.close-closed.result })) (sym none)
          (first_left key c.args.self.table.shared.table_id cov.valid o.changes o.leaves n.hold v.history v.run c.value-value.result v.stands (record { links = c.remove-all.new.self; all = c.remove-all.result; closed = c.close-closed.result }) is
          (c.close-closed.ensures.machine (state_after key.plan v.history) v.stands.numbers ∙ ap (λ (p : CorePlan). closed_of p (progress_of_stages (state_after key.plan v.history))) v.stands.plan_is));
    }

pub gather-links-requires : goal.gather-links-requires
gather-links-requires t c =
    let laws : Laws = record { changes = c.one_visit.ensures.changes; leaves = c.one_visit.ensures.leaves; hold = c.news_promises.ensures.hold } in let q = c.requires.covering in let few = q.3.few in
    let x = taken laws q.3.valid q.3.seats_are (omega (arith, few)) q.3.done q.3.covers c.pop.ensures.items c.in-Some.is (λ k seen busy e. c.take_back.ensures.joined q.0 q.1 k seen busy q.2 e) in
    let long = longer c.args.seats.items c.pop.new.self.items c.in-Some.last x.is in
    (omega (arith, long), (c.take_back.ensures.of_table, (c.requires.words, (c.requires.slots, (q.0, holding c.in-Some.last.stage (seen_of c.in-Some.last) ∷ q.1, x.root_is, x.more)))))

pub remove-requires : goal.remove-requires
remove-requires t c =
    let laws : Laws = record { changes = c.one_visit.ensures.changes; leaves = c.one_visit.ensures.leaves; hold = c.news_promises.ensures.hold } in let q = c.requires.covering in let few = q.3.few in
    let x = taken laws q.3.valid q.3.seats_are (omega (arith, few)) q.3.done q.3.covers c.pop.ensures.items c.in-Some.is (λ k seen busy e. c.take_back.ensures.joined q.0 q.1 k seen busy q.2 e) in
    let g = c.gather-links.ensures q.0 (holding c.in-Some.last.stage (seen_of c.in-Some.last) ∷ q.1) x.root_is x.more in
    let some = some_link x g few in omega (arith, some)

pub with-requires-clause-behind : goal.with-requires-clause-behind
with-requires-clause-behind t c =
    let laws : Laws = record { changes = c.one_visit.ensures.changes; leaves = c.one_visit.ensures.leaves; hold = c.news_promises.ensures.hold } in let q = c.requires.covering in let few = q.3.few in
    let x = taken laws q.3.valid q.3.seats_are (omega (arith, few)) q.3.done q.3.covers c.pop.ensures.items c.in-Some.is (λ k seen busy e. c.take_back.ensures.joined q.0 q.1 k seen busy q.2 e) in
    let g = c.gather-links.ensures q.0 (holding c.in-Some.last.stage (seen_of c.in-Some.last) ∷ q.1) x.root_is x.more in
    last_after x g

pub with-requires-clause-same : goal.with-requires-clause-same
with-requires-clause-same t c =
    let laws : Laws = record { changes = c.one_visit.ensures.changes; leaves = c.one_visit.ensures.leaves; hold = c.news_promises.ensures.hold } in let q = c.requires.covering in let few = q.3.few in
    let x = taken laws q.3.valid q.3.seats_are (omega (arith, few)) q.3.done q.3.covers c.pop.ensures.items c.in-Some.is (λ k seen busy e. c.take_back.ensures.joined q.0 q.1 k seen busy q.2 e) in
    let g = c.gather-links.ensures q.0 (holding c.in-Some.last.stage (seen_of c.in-Some.last) ∷ q.1) x.root_is x.more in
    last_same x g

pub with-requires-clause-fits : goal.with-requires-clause-fits
with-requires-clause-fits t c =
    let laws : Laws = record { changes = c.one_visit.ensures.changes; leaves = c.one_visit.ensures.leaves; hold = c.news_promises.ensures.hold } in let q = c.requires.covering in let few = q.3.few in
    let x = taken laws q.3.valid q.3.seats_are (omega (arith, few)) q.3.done q.3.covers c.pop.ensures.items c.in-Some.is (λ k seen busy e. c.take_back.ensures.joined q.0 q.1 k seen busy q.2 e) in
    let g = c.gather-links.ensures q.0 (holding c.in-Some.last.stage (seen_of c.in-Some.last) ∷ q.1) x.root_is x.more in
    last_fits x g

pub with-all-requires-clause-behind : goal.with-all-requires-clause-behind
with-all-requires-clause-behind t c =
    let laws : Laws = record { changes = c.one_visit.ensures.changes; leaves = c.one_visit.ensures.leaves; hold = c.news_promises.ensures.hold } in let q = c.requires.covering in let few = q.3.few in
    let x = taken laws q.3.valid q.3.seats_are (omega (arith, few)) q.3.done q.3.covers c.pop.ensures.items c.in-Some.is (λ k seen busy e. c.take_back.ensures.joined q.0 q.1 k seen busy q.2 e) in
    let g = c.gather-links.ensures q.0 (holding c.in-Some.last.stage (seen_of c.in-Some.last) ∷ q.1) x.root_is x.more in
    before_after x g few c.remove.ensures.value c.remove.ensures.items c.with.result c.with.ensures

pub with-all-requires-clause-same : goal.with-all-requires-clause-same
with-all-requires-clause-same t c =
    let laws : Laws = record { changes = c.one_visit.ensures.changes; leaves = c.one_visit.ensures.leaves; hold = c.news_promises.ensures.hold } in let q = c.requires.covering in let few = q.3.few in
    let x = taken laws q.3.valid q.3.seats_are (omega (arith, few)) q.3.done q.3.covers c.pop.ensures.items c.in-Some.is (λ k seen busy e. c.take_back.ensures.joined q.0 q.1 k seen busy q.2 e) in
    let g = c.gather-links.ensures q.0 (holding c.in-Some.last.stage (seen_of c.in-Some.last) ∷ q.1) x.root_is x.more in
    before_same x g few c.remove.ensures.value c.remove.ensures.items c.with.result c.with.ensures

pub with-all-requires-clause-fits : goal.with-all-requires-clause-fits
with-all-requires-clause-fits t c =
    let laws : Laws = record { changes = c.one_visit.ensures.changes; leaves = c.one_visit.ensures.leaves; hold = c.news_promises.ensures.hold } in let q = c.requires.covering in let few = q.3.few in
    let x = taken laws q.3.valid q.3.seats_are (omega (arith, few)) q.3.done q.3.covers c.pop.ensures.items c.in-Some.is (λ k seen busy e. c.take_back.ensures.joined q.0 q.1 k seen busy q.2 e) in
    let g = c.gather-links.ensures q.0 (holding c.in-Some.last.stage (seen_of c.in-Some.last) ∷ q.1) x.root_is x.more in
    before_fits x g few c.remove.ensures.value c.remove.ensures.items c.with.result c.with.ensures

pub returns : goal.returns
returns t c = λ made held root cov.
    let laws : Laws = record { changes = c.one_visit.ensures.changes; leaves = c.one_visit.ensures.leaves; hold = c.news_promises.ensures.hold } in let few = cov.few in
    let x = taken laws cov.valid cov.seats_are (omega (arith, few)) cov.done cov.covers c.pop.ensures.items c.in-Some.is (λ k seen busy e. c.take_back.ensures.joined made held k seen busy root e) in
    let g = c.gather-links.ensures made (holding c.in-Some.last.stage (seen_of c.in-Some.last) ∷ held) x.root_is x.more in
    gathered_more x g few c.remove.ensures.value c.remove.ensures.items c.with.result c.with.ensures (record { links = c.remove.new.self; all = c.with-all.result; closed = c.gather-links.result.closed }) c.with-all.ensures refl refl
