-- What a value of `inject` stands for. This project's own rule.
use Rattle.std.specs.Prelude.{◌≡◌, ◌≤◌, ◌-◌, ◌%◌, ℕ, List, [], ◌∷◌, Bool, true, false, length, reverse, Option, IfSome}
use Rattle.std.specs.Option.{option_map, option_map_or}
use Rattle.ts_packet.specs.declared.cell.Cell.{Cell}
use Rattle.ts_packet.specs.Cells.{live_packets}
use Rattle.plugin_trait.specs.Finding.{IsFirstFind}
use Rattle.plug_inject.specs.InjectRule.{Injection, put_among, put_in_among, replaced_among, replaces}
use Rattle.plug_inject.specs.Counted.{counted_on, next_behind, payloads_on}
use Rattle.plug_inject.specs.declared.counting.Counting.{Counting}
use Rattle.plug_inject.specs.declared.inject.InjectSteps.{InjectSteps}

-- what the plugin inserts, and where
abbrev pub how_of : InjectSteps → Injection
how_of s = record {
  contents = s.supply.contents;
  target = s.target;
  kept = s.kept;
  counted = option_map (λ counting. counting.pid) s.counting;
}

-- how many more packets have to pass before one may be replaced, given how many have to pass after each replaced one
unfoldable pub wait_among : ℕ → List Bool → ℕ
wait_among kept [] = 0
wait_among kept (true ∷ older) = kept
wait_among kept (false ∷ older) = wait_among (kept - 1) older

-- the kept numbers are those of the packets that were processed, the newest first
pub record Counts (how : Injection) (put_in wait : ℕ) (older : List (List ℕ)) : Type 0 where
  pub number : put_in ≡ put_in_among (replaced_among how older)
  pub few : put_in ≤ length older
  pub turn : wait ≡ wait_among how.kept (replaced_among how older)

-- the next counter is that behind the packets of the PID with a payload that left
abbrev pub Numbers : Injection → Option Counting → List (List ℕ) → Type 0
Numbers how counting older = IfSome counting (λ c. c.next ≡ payloads_on c.pid (put_among how older) % 16)

-- a packet with its counter, where counters go on
abbrev pub recounted : Option Counting → List ℕ → List ℕ
recounted counting packet = option_map_or (λ c. counted_on c.pid c.next packet) counting packet

-- and what is then kept of them
abbrev pub counting_behind : Option Counting → List ℕ → Option Counting
counting_behind counting packet = option_map (λ c. record { pid = c.pid; next = next_behind c.pid c.next packet }) counting

-- the same for a history of cells
pub record Stands (how : Injection) (put_in wait : ℕ) (counting : Option Counting) (history : List Cell) : Type 0 where
  pub counts : Counts how put_in wait (reverse (live_packets history))
  pub numbers : Numbers how counting (reverse (live_packets history))
  pub live : length (live_packets history) ≤ length history

-- and for a value of the steps, which keeps the first position at which a packet was replaced
abbrev pub Meant : InjectSteps → List Cell → Type 0
Meant s history = Stands (how_of s) s.supply.given s.wait s.counting history × IsFirstFind (replaces (how_of s)) history s.found
