-- Lemmas on when a packet is replaced, and on how a packet changes the kept numbers.
use Rattle.std.proofs.Common.{◌≡◌, ◌≢◌, ℕ, ◌-◌, ◌+◌, ◌≤◌, ◌<◌, zero, suc, Bool, true, false, not, ◌&&◌, ◌==◌, List, [], ◌∷◌, take, Some, refl, sym, ◌∙◌, ap, arith, zero-le}
use Rattle.std.specs.Prelude.{if◌then◌else◌, nat_lt, unwrap_or, IfSome, Option, None}
use Rattle.std.proofs.lemmas.Bool.{eq-eqb, lt-ltb, ne_eqb}
use Rattle.std.proofs.lemmas.List.Sums.{sum_by-cons}
use Rattle.ts_packet.specs.Header.{pid_of}
use Rattle.plug_inject.specs.Contents.{has_packets}
use Rattle.plug_inject.specs.Schedule.{packet_after}
use Rattle.plug_inject.specs.InjectRule.{Injection, is_replaced, put_among, put_for, put_in_among, replaced_among, some_replaced}
use Rattle.plug_inject.specs.InjectState.{Counts, Stands, wait_among}
use Rattle.plug_inject.specs.declared.counting.Counting.{Counting}

-- one packet fewer has to pass
pub wait-less : (kept : ℕ) (marks : List Bool) → wait_among (kept - 1) marks ≡ wait_among kept marks - 1
unfolding wait_among
wait-less kept [] = refl
wait-less kept (true ∷ older) = refl
wait-less kept (false ∷ older) = wait-less (kept - 1) older

wait-none : (marks : List Bool) → wait_among 0 marks ≡ 0
unfolding wait_among
wait-none [] = refl
wait-none (true ∷ older) = refl
wait-none (false ∷ older) = wait-none older

-- one of the packets just before was replaced exactly if some still have to pass
pub some-waits : (kept : ℕ) (marks : List Bool) → some_replaced (take kept marks) ≡ nat_lt 0 (wait_among kept marks)
unfolding wait_among
some-waits zero marks = ap (nat_lt 0) (sym (wait-none marks))
some-waits (suc kept) [] = refl
some-waits (suc kept) (true ∷ older) = sym (lt-ltb 0 (suc kept) (omega arith))
some-waits (suc kept) (false ∷ older) =
    some-waits kept older ∙ ap (λ k. nat_lt 0 (wait_among k older)) (let e : kept ≡ suc kept - 1 = omega arith in e)

and_false : (a b : Bool) → b ≡ false → (a && b) ≡ false
and_false true b e = e
and_false false b e = refl

and_true : (a b : Bool) → a ≡ true → b ≡ true → (a && b) ≡ true
and_true a b e f = ap (λ x. x && b) e ∙ f

module _ {how : Injection} {put_in wait : ℕ} {older : List (List ℕ)} (counts : Counts how put_in wait older) (packet : List ℕ) where
  -- packets still have to pass
  pub kept_waiting : 0 < wait → is_replaced how (replaced_among how older) packet ≡ false
  kept_waiting waits =
      let marks = replaced_among how older in
      let waiting : 0 < wait_among how.kept marks = omega (arith, waits, counts.turn) in
      let some : some_replaced (take how.kept marks) ≡ true = some-waits how.kept marks ∙ lt-ltb 0 (wait_among how.kept marks) waiting in
      and_false (has_packets how.contents) _ (and_false (pid_of packet == how.target) _ (ap not some))

  -- the packet is on another PID
  pub kept_elsewhere : (pid : ℕ) → pid ≡ pid_of packet → pid ≢ how.target → is_replaced how (replaced_among how older) packet ≡ false
  kept_elsewhere pid is other =
      let elsewhere : (pid_of packet == how.target) ≡ false = ap (λ p. p == how.target) (sym is) ∙ ne_eqb pid how.target other in
      and_false (has_packets how.contents) _ (ap (λ b. b && not (some_replaced (take how.kept (replaced_among how older)))) elsewhere)

  -- there is nothing to insert
  pub kept_empty : false ≡ has_packets how.contents → is_replaced how (replaced_among how older) packet ≡ false
  kept_empty e = ap (λ b. b && ((pid_of packet == how.target) && not (some_replaced (take how.kept (replaced_among how older))))) (sym e)

  -- the packet's turn
  pub takes_turn : true ≡ has_packets how.contents → (pid : ℕ) → pid ≡ pid_of packet → pid ≡ how.target → wait ≤ 0 → is_replaced how (replaced_among how older) packet ≡ true
  takes_turn contents pid is on now =
      let marks = replaced_among how older in
      let here : (pid_of packet == how.target) ≡ true = ap (λ p. p == how.target) (sym is) ∙ eq-eqb pid how.target on in
      let turn : wait_among how.kept marks ≡ 0 = omega (arith, counts.turn, now) in
      let none : some_replaced (take how.kept marks) ≡ false = some-waits how.kept marks ∙ ap (nat_lt 0) turn in
      and_true (has_packets how.contents) _ (sym contents) (and_true (pid_of packet == how.target) _ here (ap not none))

  -- a packet that is not replaced
  pub passed : is_replaced how (replaced_among how older) packet ≡ false → packet ≡ put_for how (replaced_among how older) packet
  passed e = sym (ap (λ b. if b then unwrap_or (packet_after how.contents (put_in_among (replaced_among how older))) packet else packet) e)

  pub passed_counts : is_replaced how (replaced_among how older) packet ≡ false → (left : ℕ) → left ≡ wait - 1 → Counts how put_in left (packet ∷ older)
  unfolding replaced_among wait_among
  passed_counts e left less =
      let marks = replaced_among how older in
      record {
        number = let same : put_in ≡ 0 + put_in_among marks = omega (arith, counts.number) in same ∙ sym (sum_by-cons (λ mark. if mark then 1 else 0) false marks) ∙ ap (λ b. put_in_among (b ∷ marks)) (sym e);
        few = omega (arith, counts.few);
        turn = less ∙ ap (λ w. w - 1) counts.turn ∙ sym (wait-less how.kept marks) ∙ ap (λ b. wait_among how.kept (b ∷ marks)) (sym e);
      }

  -- a packet that is replaced
  pub put : is_replaced how (replaced_among how older) packet ≡ true → (next : List ℕ) → next ≡ unwrap_or (packet_after how.contents put_in) packet → next ≡ put_for how (replaced_among how older) packet
  put e next is =
      sym (ap (λ b. if b then unwrap_or (packet_after how.contents (put_in_among (replaced_among how older))) packet else packet) e
      ∙ ap (λ n. unwrap_or (packet_after how.contents n) packet) (sym counts.number) ∙ sym is)

  pub put_counts : is_replaced how (replaced_among how older) packet ≡ true → Counts how (put_in + 1) how.kept (packet ∷ older)
  unfolding replaced_among wait_among
  put_counts e =
      let marks = replaced_among how older in
      record {
        number = let more : put_in + 1 ≡ 1 + put_in_among marks = omega (arith, counts.number) in more ∙ sym (sum_by-cons (λ mark. if mark then 1 else 0) true marks) ∙ ap (λ b. put_in_among (b ∷ marks)) (sym e);
        few = omega (arith, counts.few);
        turn = ap (λ b. wait_among how.kept (b ∷ marks)) (sym e);
      }

-- before the first cell
pub at_first : (how : Injection) (put_in : ℕ) (counting : Option Counting) → put_in ≡ 0 → IfSome counting (λ (c : Counting). c.next ≡ 0) → Stands how put_in 0 counting []
unfolding replaced_among wait_among put_among
at_first how put_in None none fresh = record { counts = record { number = none; few = omega (arith, none); turn = refl }; numbers = fresh; live = zero-le }
at_first how put_in (Some counting) none fresh = record { counts = record { number = none; few = omega (arith, none); turn = refl }; numbers = fresh; live = zero-le }
