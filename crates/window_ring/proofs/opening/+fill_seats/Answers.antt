use Rattle.std.proofs.Common.{◌≡◌, ⊎_elim, [], ◌∷◌, ◌++◌, length, vec_len, sym, ap, ◌∙◌, arith, subst}
use Rattle.std.proofs.lemmas.Bool.{cases_lt}
use Rattle.window_ring.specs.declared.stage_seat.StageSeat.{StageSeat}
use Rattle.window_ring.specs.Views.{at_rest, root_view}
use Rattle.window_ring.specs.Opening.{IsFresh, AreFresh}
use Rattle.window_ring.proofs.Gathers.{longer, at_rest_of, at_last}
use Rattle.window_ring.proofs.opening.+fill_seats.Goals as goal

pub fill_seats-requires : goal.fill_seats-requires
fill_seats-requires t c =
    let r = c.requires in let key = c.args.ring.now.table.shared.key in let table = c.args.ring.now.table.shared.table_id in let old = c.args.seats.now.items in let new = c.push_reserved.new.self.items in
    let two = c.next_seat-seat.ensures.seats (vec_len c.args.seats.now) [] r.root in
    let seat : StageSeat = record { seat = c.next_seat-seat.result; stage = c.len-stage.result; hand = c.none.result } in
    let is : new ≡ old ++ seat ∷ [] = c.push_reserved.ensures.items in
    let len = c.push_reserved.ensures.len in let below = c.if-len-stages.false in let l0 = c.len.ensures in
    let n : vec_len c.args.seats.now ≡ length old = omega arith in
    let fresh : IsFresh key table (length old) seat = record { of_table = c.next_seat-seat.ensures.of_table.1; stage = c.len-stage.ensures ∙ n; rests = two.1 ∙ ap (λ k. (at_rest key k [] [], [])) n; hand = c.none.ensures ∙ ap (λ l. Rattle.window_ring.specs.Hands.row_of 0 l []) (sym r.land) } in
    let all : AreFresh key table new = λ k d lt. ⊎_elim (λ b. subst (λ x. IsFresh key table k x) (sym (at_rest_of new old seat is k d b)) (r.fresh k d b))
    (λ a. let s = longer new old seat is in let e : length old ≡ k = omega (arith, lt, a, s) in subst (λ x. IsFresh key table k x) (sym (at_last new old seat is k d e)) (subst (λ i. IsFresh key table i seat) e fresh)) (cases_lt k (length old)) in
    (omega (arith, len, below, l0), (c.next_seat-seat.ensures.of_table.0, (r.words, (omega (arith, len, r.room), (omega (arith, len, below, l0), (r.some, (r.land, (two.0 ∙ ap (λ k. (root_view key k [], [])) (omega (arith, len)), all))))))))
