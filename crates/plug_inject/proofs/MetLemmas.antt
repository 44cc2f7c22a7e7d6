-- What `inject` stands for, with one more cell.
use Rattle.std.proofs.Common.{◌≡◌, ℕ, ◌+◌, ◌≤◌, List, [], ◌∷◌, ◌++◌, length, ap, sym, arith, length-append, subst}
use Rattle.std.specs.Prelude.{reverse, Option}
use Rattle.std.proofs.lemmas.Grind.{flat_map-append}
use Rattle.ts_packet.specs.declared.cell.Cell.{Cell}
use Rattle.ts_packet.specs.Cells.{Live, Dropped, live_packets, packet_in}
use Rattle.plug_inject.specs.InjectRule.{Injection}
use Rattle.plug_inject.specs.InjectState.{Counts, Numbers, Stands}
use Rattle.plug_inject.specs.declared.counting.Counting.{Counting}
use Rattle.plug_inject.proofs.PlaceLemmas.{older-dropped, older-live}

pub marks-more : (history : List Cell) (cell : Cell) (mark : ℕ) → mark ≤ length history → mark ≤ length (history ++ cell ∷ [])
marks-more history cell mark le = let h : length (history ++ cell ∷ []) ≡ length history + 1 = length-append history (cell ∷ []) in omega (arith, h, le)

-- no more live cells than cells
few-live : (history : List Cell) (cell : Cell) → length (packet_in cell) ≤ 1 → length (live_packets history) ≤ length history → length (live_packets (history ++ cell ∷ [])) ≤ length (history ++ cell ∷ [])
few-live history cell one le =
    let more : length (history ++ cell ∷ []) ≡ length history + 1 = length-append history (cell ∷ []) in
    let parts : length (live_packets (history ++ cell ∷ [])) ≡ length (live_packets history ++ live_packets (cell ∷ [])) = ap (λ (packets : List (List ℕ)). length packets) (flat_map-append packet_in history (cell ∷ [])) in
    let sums : length (live_packets history ++ live_packets (cell ∷ [])) ≡ length (live_packets history) + length (live_packets (cell ∷ [])) = length-append (live_packets history) (live_packets (cell ∷ [])) in
    let own : length (live_packets (cell ∷ [])) ≡ length (packet_in cell) + 0 = length-append (packet_in cell) [] in
    omega (arith, one, le, more, parts, sums, own)

pub stands-live : (how : Injection) (put_in wait put_then wait_then : ℕ) (counting counting_then : Option Counting) (history : List Cell) (packet : List ℕ) (labels : ℕ) → Stands how put_in wait counting history
    → Counts how put_then wait_then (packet ∷ reverse (live_packets history)) → Numbers how counting_then (packet ∷ reverse (live_packets history))
    → Stands how put_then wait_then counting_then (history ++ Live packet labels ∷ [])
stands-live how put_in wait put_then wait_then counting counting_then history packet labels stands counts numbers = record {
  counts = subst (λ (older : List (List ℕ)). Counts how put_then wait_then older) (sym (older-live history packet labels)) counts;
  numbers = subst (λ (older : List (List ℕ)). Numbers how counting_then older) (sym (older-live history packet labels)) numbers;
  live = few-live history (Live packet labels) (omega arith) stands.live;
}

pub stands-dropped : (how : Injection) (put_in wait : ℕ) (counting : Option Counting) (history : List Cell) → Stands how put_in wait counting history → Stands how put_in wait counting (history ++ Dropped ∷ [])
stands-dropped how put_in wait counting history stands = record {
  counts = subst (λ (older : List (List ℕ)). Counts how put_in wait older) (sym (older-dropped history)) stands.counts;
  numbers = subst (λ (older : List (List ℕ)). Numbers how counting older) (sym (older-dropped history)) stands.numbers;
  live = few-live history Dropped (omega arith) stands.live;
}
