use Rattle.std.proofs.Common.{◌≡◌, ◌+◌, ◌==◌, ◌-◌, ℕ, List, ◌∷◌, subst, refl, sym, ap, ◌∙◌, length, drop, arith}
use prog.Atomic.{either}
use Rattle.atomic_table.specs.Table.{Me, Allows, step, rest}
use Rattle.window_ring.specs.declared.state.State.{State}
use Rattle.window_ring.specs.declared.view.View.{View}
use Rattle.window_ring.specs.Turns.{Kept, Takes, Leaves}
use Rattle.window_ring.specs.Visits.{MayGive, Brings}
use Rattle.chain_core.specs.ChainRun.{state_after}
use Rattle.window_ring.specs.Seats.{busy_of, seen_of}
use Rattle.window_ring.proofs.Steps.{take as take_turn}
use Rattle.window_ring.proofs.Since.{may_give}
use Rattle.window_ring.proofs.Turns.{turn_of, away_of, top, leaves_turn, left_turn}
use Rattle.window_ring.proofs.ring.Ring.visit.Goals as goal

pub overflow_add-seat : goal.overflow_add-seat
overflow_add-seat c = let a = c.requires.allowed.is_stage in let b = c.requires.valid.plugins in record { fits = omega (arith, a, b) }

pub compare_exchange-found-requires : goal.compare_exchange-found-requires
compare_exchange-found-requires c =
    let r = c.requires in let k = c.args.seat.now.stage in let key = c.args.self.now.table.shared.key in
    let F = λ (n : ℕ) (me : Me State View). Allows (Kept key) n c.args.seat.now.seat.id me 0 (λ n. either (n == 0) (k + 1) n) (Takes (step n 0 0 (k + 1) mathlib.Core.Option.none) me) in
    (r.seat_is.of_table, r.words, subst (λ n. F n c.args.seat.now.seat.me) (sym r.slots) (subst (F 1) (sym r.seat_is.rests) (take_turn key c.args.seat.now.seat.id k (seen_of c.args.seat.now) (busy_of c.args.seat.now) (step 1 0 0 (k + 1) mathlib.Core.Option.none) r.allowed.is_stage)))

-- where the turn was found free, the seat has it
pub slot_mut-requires : goal.slot_mut-requires
slot_mut-requires c =
    let e = c.compare_exchange-found.ensures in
    let t = turn_of c.args.self.now.table.shared.key c.args.seat.now.stage (seen_of c.args.seat.now) (busy_of c.args.seat.now) (step c.args.self.now.table.shared.table_id.slots 0 0 (c.args.seat.now.stage + 1) mathlib.Core.Option.none) c.args.seat.now.seat.me c.compare_exchange-found.new.seat.me c.compare_exchange-found.result c.requires.seat_is.rests c.if-found-ne0.false e.2 in
    let m = ap (λ (me : Me State View). me.1) t.me in
    (e.0 ∙ c.requires.seat_is.of_table, (t.value, m ∙ ap (λ l. (0, t.value) ∷ rest l) (sym m)))

pub visit-news-requires : goal.visit-news-requires
visit-news-requires c =
    let e = c.compare_exchange-found.ensures in let r = c.requires in let o = c.one_visit.ensures in let key = c.args.self.now.table.shared.key in let seat = c.args.seat.now in
    let t = turn_of key seat.stage (seen_of c.args.seat.now) (busy_of c.args.seat.now) (step c.args.self.now.table.shared.table_id.slots 0 0 (seat.stage + 1) mathlib.Core.Option.none) seat.seat.me c.compare_exchange-found.new.seat.me c.compare_exchange-found.result r.seat_is.rests c.if-found-ne0.false e.2 in
    let m = ap (λ (me : Me State View). me.1) t.me in
    let same : t.value ≡ c.slot_mut.result.now = ap (λ (l : List (ℕ × State)). top t.value l) (sym m ∙ c.slot_mut.ensures.value) in (
      key,
      t.history,
      subst (λ v. MayGive key v t.history seat.hand seat.stage c.args.done c.args.word) same
          (may_give key r.valid o.changes o.leaves t.value t.history t.later (seen_of c.args.seat.now) seat.hand seat.stage c.args.done c.args.word t.stands t.run t.is t.others r.seat_is.hand_is r.done_within r.allowed),
    )

pub store-requires : goal.store-requires
store-requires c =
    let e = c.compare_exchange-found.ensures in let r = c.requires in let o = c.one_visit.ensures in let key = c.args.self.now.table.shared.key in let seat = c.args.seat.now in
    let t = turn_of key seat.stage (seen_of c.args.seat.now) (busy_of c.args.seat.now) (step c.args.self.now.table.shared.table_id.slots 0 0 (seat.stage + 1) mathlib.Core.Option.none) seat.seat.me c.compare_exchange-found.new.seat.me c.compare_exchange-found.result r.seat_is.rests c.if-found-ne0.false e.2 in
    let m = ap (λ (me : Me State View). me.1) t.me in
    let same : t.value ≡ c.slot_mut.result.now = ap (λ (l : List (ℕ × State)). top t.value l) (sym m ∙ c.slot_mut.ensures.value) in
    let may = subst (λ v. MayGive key v t.history seat.hand seat.stage c.args.done c.args.word) same
    (may_give key r.valid o.changes o.leaves t.value t.history t.later (seen_of c.args.seat.now) seat.hand seat.stage c.args.done c.args.word t.stands t.run t.is t.others r.seat_is.hand_is r.done_within r.allowed) in
    let d = c.visit-news.ensures key t.history may in let new = c.visit-news.new.self in
    let F = λ (n : ℕ) (me : Me State View). Allows (Kept key) n c.compare_exchange-found.new.seat.id me 0 (λ _. 0) (λ _. Leaves (step n 0 0 0 mathlib.Core.Option.none) me 0) in (
      e.0 ∙ r.seat_is.of_table,
      r.words,
      subst (λ n. F n (c.compare_exchange-found.new.seat.me.0, (0, new) ∷ rest c.compare_exchange-found.new.seat.me.1)) (sym r.slots)
          (subst (F 1) (λ i. ((sym t.me i).0, (0, new) ∷ rest (sym t.me i).1)) (leaves_turn key seat.stage (seen_of c.args.seat.now) t.history c.slot_mut.result.now new seat.hand c.visit-news.new.hand c.args.done c.args.word c.visit-news.result (step 1 0 0 0 mathlib.Core.Option.none) c.compare_exchange-found.new.seat.id may d)),
    )

pub returns-clause-visited : goal.returns-clause-visited
returns-clause-visited c =
    let e = c.compare_exchange-found.ensures in let r = c.requires in let o = c.one_visit.ensures in let key = c.args.self.now.table.shared.key in let seat = c.args.seat.now in
    let t = turn_of key seat.stage (seen_of c.args.seat.now) (busy_of c.args.seat.now) (step c.args.self.now.table.shared.table_id.slots 0 0 (seat.stage + 1) mathlib.Core.Option.none) seat.seat.me c.compare_exchange-found.new.seat.me c.compare_exchange-found.result r.seat_is.rests c.if-found-ne0.false e.2 in
    let m = ap (λ (me : Me State View). me.1) t.me in
    let same : t.value ≡ c.slot_mut.result.now = ap (λ (l : List (ℕ × State)). top t.value l) (sym m ∙ c.slot_mut.ensures.value) in
    let may = subst (λ v. MayGive key v t.history seat.hand seat.stage c.args.done c.args.word) same
    (may_give key r.valid o.changes o.leaves t.value t.history t.later (seen_of c.args.seat.now) seat.hand seat.stage c.args.done c.args.word t.stands t.run t.is t.others r.seat_is.hand_is r.done_within r.allowed) in
    let d = c.visit-news.ensures key t.history may in let new = c.visit-news.new.self in
    let st = step c.args.self.now.table.shared.table_id.slots 0 0 0 mathlib.Core.Option.none in
    let w = left_turn key seat.stage (seen_of c.args.seat.now) t.history c.slot_mut.result.now new seat.hand c.visit-news.new.hand c.args.done c.args.word c.visit-news.result st c.store.new.seat.me t.later may d
    (subst (λ me. Leaves st me 0 c.store.new.seat.me) (λ i. ((t.me i).0, (0, new) ∷ rest (t.me i).1)) c.store.ensures.2) t.is in
    record { between = t.later; of_others = t.others; rests = w.0; run = w.1; news_is = w.2; hand_is = w.3; front = d.front; fresh = subst (λ h. Brings (state_after key.plan h) seat.stage (drop (length seat.hand.cells - c.args.done) c.visit-news.new.hand.cells) c.visit-news.result) t.is d.fresh }

pub returns-then-found-ne0-clause-visited : goal.returns-then-found-ne0-clause-visited
returns-then-found-ne0-clause-visited c =
    let e = c.compare_exchange-found.ensures in let r = c.requires in let key = c.args.self.now.table.shared.key in let seat = c.args.seat.now in
    let a = away_of key seat.stage (seen_of seat) (busy_of seat) (step c.args.self.now.table.shared.table_id.slots 0 0 (seat.stage + 1) mathlib.Core.Option.none) seat.seat.me c.compare_exchange-found.new.seat.me c.compare_exchange-found.result r.seat_is.rests c.if-found-ne0.true e.2 in
    (a.0, refl, a.1, a.2)
