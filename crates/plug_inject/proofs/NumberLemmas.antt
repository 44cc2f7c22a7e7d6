-- Lemmas on counters that go on over a PID.
use Rattle.std.proofs.Common.{◌≡◌, ℕ, ◌+◌, ◌%◌, ◌==◌, ◌&&◌, Bool, true, false, List, ◌∷◌, Option, None, Some, ap, sym, ◌∙◌, arith}
use Rattle.std.specs.Prelude.{if◌then◌else◌}
use Rattle.std.specs.Option.{option_map}
use Rattle.std.proofs.lemmas.List.Sums.{sum_by-cons}
use Rattle.ts_packet.specs.Header.{has_payload_of, pid_of, with_counter}
use Rattle.plug_inject.specs.Counted.{counted_on, next_behind, payloads_on}
use Rattle.plug_inject.specs.InjectRule.{Injection, counted_after, injected, put_among, put_for, replaced_among}
use Rattle.plug_inject.specs.InjectState.{Numbers, counting_behind, recounted}
use Rattle.plug_inject.specs.declared.counting.Counting.{Counting}

-- a counter is told by the number of packets modulo 16
behind-modulo : (n next : ℕ) (has : Bool) → next ≡ n % 16 → (if has then next % 16 else (next + 15) % 16) ≡ (if has then n % 16 else (n + 15) % 16)
behind-modulo n next true e = omega (arith, e)
behind-modulo n next false e = omega (arith, e)

on-modulo : (pid n next : ℕ) (packet : List ℕ) → next ≡ n % 16 → counted_on pid next packet ≡ counted_on pid n packet
on-modulo pid n next packet e =
    ap (λ (c : ℕ). if pid_of packet == pid then with_counter packet c else packet) (behind-modulo n next (has_payload_of packet) e)

more-modulo : (n next : ℕ) (on : Bool) → next ≡ n % 16 → (if on then (next + 1) % 16 else next) ≡ ((if on then 1 else 0) + n) % 16
more-modulo n next true e = omega (arith, e)
more-modulo n next false e = omega (arith, e)

-- a packet that leaves has the counter of the rule
pub recounts : (how : Injection) (counting : Option Counting) (older : List (List ℕ)) (packet left : List ℕ)
    → how.counted ≡ option_map (λ (c : Counting). c.pid) counting → Numbers how counting older
    → left ≡ put_for how (replaced_among how older) packet → recounted counting left ≡ injected how older packet
recounts how None older packet left counted numbers is =
    is ∙ sym (ap (λ (pid : Option ℕ). counted_after pid (put_among how older) (put_for how (replaced_among how older) packet)) counted)
recounts how (Some c) older packet left counted numbers is =
    ap (λ (p : List ℕ). counted_on c.pid c.next p) is
    ∙ on-modulo c.pid (payloads_on c.pid (put_among how older)) c.next (put_for how (replaced_among how older) packet) numbers
    ∙ sym (ap (λ (pid : Option ℕ). counted_after pid (put_among how older) (put_for how (replaced_among how older) packet)) counted)

-- and what is kept of it is right for the next one
pub numbers-more : (how : Injection) (counting : Option Counting) (older : List (List ℕ)) (packet left : List ℕ)
    → Numbers how counting older → left ≡ put_for how (replaced_among how older) packet
    → Numbers how (counting_behind counting left) (packet ∷ older)
unfolding put_among
numbers-more how None older packet left numbers is = numbers
numbers-more how (Some c) older packet left numbers is =
    let put = put_for how (replaced_among how older) packet in
    ap (λ (p : List ℕ). next_behind c.pid c.next p) is
    ∙ more-modulo (payloads_on c.pid (put_among how older)) c.next (pid_of put == c.pid && has_payload_of put) numbers
    ∙ ap (λ (n : ℕ). n % 16) (sym (sum_by-cons (λ (p : List ℕ). if pid_of p == c.pid && has_payload_of p then 1 else 0) put (put_among how older)))
