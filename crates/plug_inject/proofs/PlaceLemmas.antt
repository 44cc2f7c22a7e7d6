-- Lemmas on the places at which packets are inserted, packet by packet.
use Rattle.std.proofs.Common.{◌≡◌, ◌≢◌, ℕ, zero, suc, ◌+◌, ◌-◌, ◌<◌, ◌≤◌, ◌%◌, Bool, true, false, not, ◌&&◌, List, [], ◌∷◌, ◌++◌, length, take, get_or, slice_index, slice_get, Option, None, Some, refl, ap, sym, ◌∙◌, arith, append-nil}
use Rattle.std.specs.Prelude.{if◌then◌else◌, nat_lt, reverse, unwrap_or}
use Rattle.std.specs.Option.{option_map}
use Rattle.std.proofs.Math.Nat.{mod-lt}
use Rattle.std.proofs.lemmas.Bool.{ltb-false}
use Rattle.std.proofs.lemmas.Grind.{flat_map-append}
use Rattle.std.proofs.lemmas.List.{reverse-append}
use Rattle.std.proofs.lemmas.List.Sums.{sum_by-cons}
use Rattle.std.proofs.lemmas.Option.{slice_get-get_or}
use Rattle.ts_packet.specs.declared.cell.Cell.{Cell}
use Rattle.ts_packet.specs.Cells.{Live, Dropped}
use Rattle.ts_packet.specs.Cells.{live_packets, packet_in}
use Rattle.ts_packet.specs.Header.{with_counter}
use Rattle.chain_model.specs.Apply.{apply_after}
use Rattle.ts_packetize.specs.Packets.{packets_of}
use Rattle.plug_inject.specs.Contents.{Contents, contents_for, cycle, has_packets}
use Rattle.plug_inject.specs.Schedule.{packet_after}
use Rattle.plug_inject.specs.InjectRule.{Injection, counted_after, injected, injecting_rule, injection_of, is_replaced, kept_before, put_among, put_for, put_in_among, replaced_among, some_replaced}
use Rattle.plug_inject.specs.InjectedPlaces.{injected_packets, places_after, places_in}
use Rattle.plug_inject.specs.declared.inject_conf.InjectConf.{InjectConf}
use Rattle.plug_inject.specs.declared.inject_conf.InjectMode.TheVariants.{InterPacket}
use Rattle.plug_inject.specs.InjectState.{wait_among}
use Rattle.plug_inject.proofs.TurnLemmas.{some-waits, wait-less}

-- the output instead of packets after others
abbrev made : Injection → List (List ℕ) → List (List ℕ) → List (List ℕ)
made how older [] = []
made how older (packet ∷ packets) = injected how older packet ∷ made how (packet ∷ older) packets

-- packet k of a repeated cycle, with its counter
abbrev pub cycle_packet : List (List ℕ) → ℕ → List ℕ
cycle_packet contents k = with_counter (get_or contents (k % length contents) []) (k % 16)

-- one more packet was processed, or a dropped cell
pub older-live : (history : List Cell) (packet : List ℕ) (labels : ℕ) → reverse (live_packets (history ++ Live packet labels ∷ [])) ≡ packet ∷ reverse (live_packets history)
older-live history packet labels =
    ap (λ (packets : List (List ℕ)). reverse packets) (flat_map-append packet_in history (Live packet labels ∷ []))
    ∙ reverse-append (live_packets history) (packet ∷ [])

pub older-dropped : (history : List Cell) → reverse (live_packets (history ++ Dropped ∷ [])) ≡ reverse (live_packets history)
older-dropped history =
    ap (λ (packets : List (List ℕ)). reverse packets) (flat_map-append packet_in history (Dropped ∷ []) ∙ append-nil (live_packets history))

-- the output of the rule for cells after others
made-of : (how : Injection) (history cells : List Cell) → live_packets (apply_after (injecting_rule how) history cells).cells ≡ made how (reverse (live_packets history)) (live_packets cells)
made-of how history [] = refl
made-of how history (Live packet labels ∷ cells) =
    ap (λ (packets : List (List ℕ)). injected how (reverse (live_packets history)) packet ∷ packets)
    (made-of how (history ++ Live packet labels ∷ []) cells ∙ ap (λ (older : List (List ℕ)). made how older (live_packets cells)) (older-live history packet labels))
made-of how history (Dropped ∷ cells) =
    made-of how (history ++ Dropped ∷ []) cells ∙ ap (λ (older : List (List ℕ)). made how older (live_packets cells)) (older-dropped history)

left-true : (a b : Bool) → (a && b) ≡ true → a ≡ true
left-true true b e = refl
left-true false b e = absurd cc

last-false : (a b c : Bool) → (a && (b && not c)) ≡ true → c ≡ false
last-false true true false e = refl
last-false true true true e = absurd cc
last-false true false c e = absurd cc
last-false false b c e = absurd cc

-- a cycle that has packets has one for each number
cycle-some : (contents : List (List ℕ)) (k : ℕ) → has_packets (cycle contents) ≡ true → packet_after (cycle contents) k ≡ Some (cycle_packet contents k)
cycle-some [] k e = absurd cc
cycle-some (packet ∷ packets) k e =
    let some : 0 < length (packet ∷ packets) = omega arith in
    ap (λ (o : Option (List ℕ)). option_map (λ (p : List ℕ). with_counter p (k % 16)) o) (slice_get-get_or (packet ∷ packets) (k % length (packet ∷ packets)) [] (mod-lt k some))

not-below : (n : ℕ) → nat_lt 0 n ≡ false → n ≡ 0
not-below n e = let none : n ≤ 0 = ltb-false 0 n e in omega arith

-- without counters that go on, the output is what is put in the place of a packet
module _ (how : Injection) (plain : how.counted ≡ None) where
  plainly : (older : List (List ℕ)) (packet : List ℕ) → injected how older packet ≡ put_for how (replaced_among how older) packet
  plainly older packet = ap (λ (pid : Option ℕ). counted_after pid (put_among how older) (put_for how (replaced_among how older) packet)) plain

-- a packet after others that is replaced or not, by one of a cycle, without counters that go on
module _ (how : Injection) (plain : how.counted ≡ None) (contents : List (List ℕ)) (cycled : how.contents ≡ cycle contents) (older : List (List ℕ)) (packet : List ℕ) where
  put-packet : is_replaced how (replaced_among how older) packet ≡ true → injected how older packet ≡ cycle_packet contents (put_in_among (replaced_among how older))
  put-packet e =
      let marks = replaced_among how older in
      let has : has_packets (cycle contents) ≡ true = ap has_packets (sym cycled) ∙ left-true (has_packets how.contents) _ e in
      let some : packet_after how.contents (put_in_among marks) ≡ Some (cycle_packet contents (put_in_among marks)) =
      ap (λ (c : Contents). packet_after c (put_in_among marks)) cycled ∙ cycle-some contents (put_in_among marks) has in
      plainly how plain older packet
      ∙ ap (λ (b : Bool). if b then unwrap_or (packet_after how.contents (put_in_among marks)) packet else packet) e
      ∙ ap (λ o. unwrap_or o packet) some

module _ (how : Injection) (plain : how.counted ≡ None) (older : List (List ℕ)) (packet : List ℕ) where
  kept-packet : is_replaced how (replaced_among how older) packet ≡ false → injected how older packet ≡ packet
  kept-packet e = plainly how plain older packet ∙ ap (λ (b : Bool). if b then unwrap_or (packet_after how.contents (put_in_among (replaced_among how older))) packet else packet) e

-- what is kept of a packet after others: how many were inserted, and how many more packets have to pass before one
-- may be replaced
module _ (how : Injection) (older : List (List ℕ)) (packet : List ℕ) where
  count-more : put_in_among (replaced_among how (packet ∷ older)) ≡ (if is_replaced how (replaced_among how older) packet then 1 else 0) + put_in_among (replaced_among how older)
  unfolding replaced_among
  count-more = sum_by-cons (λ (mark : Bool). if mark then 1 else 0) (is_replaced how (replaced_among how older) packet) (replaced_among how older)

  wait-free : is_replaced how (replaced_among how older) packet ≡ true → wait_among how.kept (replaced_among how older) ≡ 0
  wait-free e =
      let marks = replaced_among how older in
      let none : some_replaced (take how.kept marks) ≡ false = last-false (has_packets how.contents) _ _ e in
      not-below (wait_among how.kept marks) (sym (some-waits how.kept marks) ∙ none)

  wait-put : is_replaced how (replaced_among how older) packet ≡ true → wait_among how.kept (replaced_among how (packet ∷ older)) ≡ how.kept
  unfolding replaced_among wait_among
  wait-put e = ap (λ (b : Bool). wait_among how.kept (b ∷ replaced_among how older)) e

  wait-kept : is_replaced how (replaced_among how older) packet ≡ false → wait_among how.kept (replaced_among how (packet ∷ older)) ≡ wait_among how.kept (replaced_among how older) - 1
  unfolding replaced_among wait_among
  wait-kept e = ap (λ (b : Bool). wait_among how.kept (b ∷ replaced_among how older)) e ∙ wait-less how.kept (replaced_among how older)

-- at number k of the places, counted from a start, stands the packet of the cycle with that number
abbrev PutAt : List ℕ → List (List ℕ) → List (List ℕ) → ℕ → ℕ → ℕ → Type 0
PutAt places packets contents start before k =
    (j : ℕ) × (slice_index places k ≡ start + j) × (slice_get packets j ≡ Some (cycle_packet contents (before + k)))

-- the same with one more packet in front, which is replaced or not
put-front : (is : Bool) (start before more : ℕ) (places : List ℕ) (next : List ℕ) (packets contents : List (List ℕ))
    → (is ≡ true → next ≡ cycle_packet contents before) → more ≡ (if is then 1 else 0) + before
    → ((k : ℕ) → k < length places → PutAt places packets contents (suc start) more k)
    → (k : ℕ) → k < length (if is then start ∷ places else places) → PutAt (if is then start ∷ places else places) (next ∷ packets) contents start before k
put-front true start before more places next packets contents put count rest zero lt =
    let same : before ≡ before + 0 = omega arith in
    let here : start ≡ start + 0 = omega arith in
    (0, here, ap (λ (packet : List ℕ). Some packet) (put refl ∙ ap (cycle_packet contents) same))
put-front true start before more places next packets contents put count rest (suc k) lt =
    let r = rest k (omega arith) in
    let place : slice_index places k ≡ start + suc r.0 = r.1 ∙ omega arith in
    let same : more + k ≡ before + suc k = omega (arith, count) in
    (suc r.0, place, r.2 ∙ ap (λ (n : ℕ). Some (cycle_packet contents n)) same)
put-front false start before more places next packets contents put count rest k lt =
    let r = rest k lt in
    let place : slice_index places k ≡ start + suc r.0 = r.1 ∙ omega arith in
    let same : more + k ≡ before + k = omega (arith, count) in
    (suc r.0, place, r.2 ∙ ap (λ (n : ℕ). Some (cycle_packet contents n)) same)

-- packets in no place stay, with one more in front
other-front : (is : Bool) (start : ℕ) (places : List ℕ) (next packet : List ℕ) (given packets : List (List ℕ))
    → (is ≡ false → next ≡ packet)
    → ((i : ℕ) → ((k : ℕ) → k < length places → slice_index places k ≢ suc start + i) → slice_get given i ≡ slice_get packets i)
    → (i : ℕ) → ((k : ℕ) → k < length (if is then start ∷ places else places) → slice_index (if is then start ∷ places else places) k ≢ start + i)
    → slice_get (next ∷ given) i ≡ slice_get (packet ∷ packets) i
other-front true start places next packet given packets kept rest zero others =
    let here : start ≡ start + 0 = omega arith in absurd (others 0 (omega arith) here)
other-front true start places next packet given packets kept rest (suc i) others =
    rest i (λ k lt e. others (suc k) (omega arith) (let on : slice_index places k ≡ start + suc i = e ∙ omega arith in on))
other-front false start places next packet given packets kept rest zero others = ap (λ (p : List ℕ). Some p) (kept refl)
other-front false start places next packet given packets kept rest (suc i) others =
    rest i (λ k lt e. others k lt (let on : slice_index places k ≡ start + suc i = e ∙ omega arith in on))

-- each place is as far after the start as packets still have to pass, with one more in front
far-front : (is : Bool) (start wait left : ℕ) (places : List ℕ) → (is ≡ true → wait ≡ 0) → (is ≡ false → left ≡ wait - 1)
    → ((k : ℕ) → k < length places → suc start + left ≤ slice_index places k)
    → (k : ℕ) → k < length (if is then start ∷ places else places) → start + wait ≤ slice_index (if is then start ∷ places else places) k
far-front true start wait left places free kept rest zero lt = let none : wait ≡ 0 = free refl in omega arith
far-front true start wait left places free kept rest (suc k) lt =
    let none : wait ≡ 0 = free refl in
    let next : suc start + left ≤ slice_index places k = rest k (omega arith) in omega arith
far-front false start wait left places free kept rest k lt =
    let less : left ≡ wait - 1 = kept refl in
    let next : suc start + left ≤ slice_index places k = rest k lt in omega arith

-- two places are so far apart, with one more in front
apart-front : (is : Bool) (start least : ℕ) (places : List ℕ) → (is ≡ true → (k : ℕ) → k < length places → start + least ≤ slice_index places k)
    → ((j k : ℕ) → j < k → k < length places → slice_index places j + least ≤ slice_index places k)
    → (j k : ℕ) → j < k → k < length (if is then start ∷ places else places)
    → slice_index (if is then start ∷ places else places) j + least ≤ slice_index (if is then start ∷ places else places) k
apart-front true start least places first rest j zero less lt = absurd (omega arith)
apart-front true start least places first rest zero (suc k) less lt = first refl k (omega arith)
apart-front true start least places first rest (suc j) (suc k) less lt = rest j k (omega arith) (omega arith)
apart-front false start least places first rest j k less lt = rest j k less lt

-- the same for any packets after others
module _ (how : Injection) (plain : how.counted ≡ None) where
  put-at : (contents : List (List ℕ)) (cycled : how.contents ≡ cycle contents) (older packets : List (List ℕ)) (k : ℕ) → k < length (places_after how older packets)
      → PutAt (places_after how older packets) (made how older packets) contents (length older) (put_in_among (replaced_among how older)) k
  put-at contents cycled older [] k lt = absurd (omega arith)
  put-at contents cycled older (packet ∷ packets) k lt =
      put-front (is_replaced how (replaced_among how older) packet) (length older) (put_in_among (replaced_among how older))
      (put_in_among (replaced_among how (packet ∷ older))) (places_after how (packet ∷ older) packets)
      (injected how older packet) (made how (packet ∷ older) packets) contents
      (put-packet how plain contents cycled older packet) (count-more how older packet) (put-at contents cycled (packet ∷ older) packets) k lt

  others-stay : (older packets : List (List ℕ)) (i : ℕ) → ((k : ℕ) → k < length (places_after how older packets) → slice_index (places_after how older packets) k ≢ length older + i)
      → slice_get (made how older packets) i ≡ slice_get packets i
  others-stay older [] i others = refl
  others-stay older (packet ∷ packets) i others =
      other-front (is_replaced how (replaced_among how older) packet) (length older) (places_after how (packet ∷ older) packets)
      (injected how older packet) packet (made how (packet ∷ older) packets) packets
      (kept-packet how plain older packet) (others-stay (packet ∷ older) packets) i others

-- and how far the places are apart
module _ (how : Injection) where
  all-far : (older packets : List (List ℕ)) (k : ℕ) → k < length (places_after how older packets)
      → length older + wait_among how.kept (replaced_among how older) ≤ slice_index (places_after how older packets) k
  all-far older [] k lt = absurd (omega arith)
  all-far older (packet ∷ packets) k lt =
      far-front (is_replaced how (replaced_among how older) packet) (length older) (wait_among how.kept (replaced_among how older))
      (wait_among how.kept (replaced_among how (packet ∷ older))) (places_after how (packet ∷ older) packets)
      (wait-free how older packet) (wait-kept how older packet) (all-far (packet ∷ older) packets) k lt

  next-far : (older packets : List (List ℕ)) (packet : List ℕ) → is_replaced how (replaced_among how older) packet ≡ true
      → (k : ℕ) → k < length (places_after how (packet ∷ older) packets) → length older + suc how.kept ≤ slice_index (places_after how (packet ∷ older) packets) k
  next-far older packets packet e k lt =
      let waits : wait_among how.kept (replaced_among how (packet ∷ older)) ≡ how.kept = wait-put how older packet e in
      let far : length (packet ∷ older) + wait_among how.kept (replaced_among how (packet ∷ older)) ≤ slice_index (places_after how (packet ∷ older) packets) k = all-far (packet ∷ older) packets k lt in
      omega arith

  all-apart : (older packets : List (List ℕ)) (j k : ℕ) → j < k → k < length (places_after how older packets)
      → slice_index (places_after how older packets) j + suc how.kept ≤ slice_index (places_after how older packets) k
  all-apart older [] j k less lt = absurd (omega arith)
  all-apart older (packet ∷ packets) j k less lt =
      apart-front (is_replaced how (replaced_among how older) packet) (length older) (suc how.kept) (places_after how (packet ∷ older) packets)
      (next-far older packets packet) (all-apart (packet ∷ older) packets) j k less lt

none-before : (how : Injection) → put_in_among (replaced_among how []) ≡ 0
unfolding replaced_among
none-before how = refl

-- no packets come before the first one
none-first : (n : ℕ) → length {A = List ℕ} [] + n ≡ n
none-first n = omega arith

-- without the options that say otherwise counters do not go on, and the contents are a cycle
plain-of : (conf : InjectConf) (sections : List (List ℕ)) → conf.fix_counters ≡ false → (injection_of conf sections).counted ≡ None
plain-of conf sections e = ap (λ (b : Bool). if b then Some conf.pid else None) e

cycle-of : (conf : InjectConf) (sections : List (List ℕ)) → conf.every ≡ [] → (injection_of conf sections).contents ≡ cycle (packets_of conf.pid sections)
cycle-of conf sections e = ap (λ (pairs : List (ℕ × ℕ)). contents_for conf.pid pairs sections) e

pub places-put_in : (conf : InjectConf) (sections : List (List ℕ)) (cells : List Cell) (k : ℕ) → conf.every ≡ [] → conf.fix_counters ≡ false → k < length (places_in conf sections cells)
    → slice_get (injected_packets conf sections cells) (slice_index (places_in conf sections cells) k) ≡ Some (cycle_packet (packets_of conf.pid sections) k)
places-put_in conf sections cells k unpaired off lt =
    let how = injection_of conf sections in
    let p = put-at how (plain-of conf sections off) (packets_of conf.pid sections) (cycle-of conf sections unpaired) [] (live_packets cells) k lt in
    let none : put_in_among (replaced_among how []) ≡ 0 = none-before how in
    let place : slice_index (places_in conf sections cells) k ≡ p.0 = p.1 ∙ none-first p.0 in
    let number : put_in_among (replaced_among how []) + k ≡ k = omega (arith, none) in
    ap (λ (packets : List (List ℕ)). slice_get packets (slice_index (places_in conf sections cells) k)) (made-of how [] cells)
    ∙ (ap (λ (at : ℕ). slice_get (made how [] (live_packets cells)) at) place
    ∙ (p.2 ∙ ap (λ (n : ℕ). Some (cycle_packet (packets_of conf.pid sections) n)) number))

pub places-others : (conf : InjectConf) (sections : List (List ℕ)) (cells : List Cell) (i : ℕ) → conf.fix_counters ≡ false
    → ((k : ℕ) → k < length (places_in conf sections cells) → slice_index (places_in conf sections cells) k ≢ i)
    → slice_get (injected_packets conf sections cells) i ≡ slice_get (live_packets cells) i
places-others conf sections cells i off others =
    let how = injection_of conf sections in
    ap (λ (packets : List (List ℕ)). slice_get packets i) (made-of how [] cells)
    ∙ others-stay how (plain-of conf sections off) [] (live_packets cells) i (λ k lt e. others k lt (e ∙ none-first i))

pub places-rising : (conf : InjectConf) (sections : List (List ℕ)) (cells : List Cell) (j k : ℕ) → j < k → k < length (places_in conf sections cells)
    → slice_index (places_in conf sections cells) j < slice_index (places_in conf sections cells) k
places-rising conf sections cells j k less lt =
    let far = all-apart (injection_of conf sections) [] (live_packets cells) j k less lt in omega (arith, far)

pub places-apart : (conf : InjectConf) (sections : List (List ℕ)) (cells : List Cell) (distance j k : ℕ) → conf.mode ≡ InterPacket distance → j < k → k < length (places_in conf sections cells)
    → slice_index (places_in conf sections cells) j + distance ≤ slice_index (places_in conf sections cells) k
places-apart conf sections cells distance j k is less lt =
    let far = all-apart (injection_of conf sections) [] (live_packets cells) j k less lt in
    let kept : kept_before conf.mode ≡ distance - 1 = ap kept_before is in omega (arith, far, kept)
