-- Whether there was a packet of a kind since the last PCR. ETSI TR 101 290, 5.2.2, 2.6: a CAT is asked for where there are
-- scrambled packets; that these are looked for from one PCR to the next is this project's own rule.
use Rattle.std.specs.Prelude.{◌≡◌, ℕ, List, ◌++◌, length, Bool, false, ◌||◌, Option, if◌then◌else◌}
use Rattle.ts_packet.specs.declared.cell.Cell.{Cell}
use Rattle.plug_clock.specs.StreamClock.{clock_after}
use Rattle.monitor_keys.specs.declared.since_look.SinceLook.{SinceLook}
use Rattle.monitor_keys.specs.declared.span.Span.{Span}
use Rattle.monitor_keys.specs.Keys.{behind, has_some, noted_from, place_if}
use Rattle.monitor_keys.specs.Looks.{is_look}

-- the position of a packet of the kind
abbrev pub kind_on : (List ℕ → Bool) → List Cell → List ℕ → List ℕ
kind_on kind history packet = place_if (kind packet) (length history)

-- the positions of these behind the last PCR that was read
abbrev pub since_look : Option ℕ → (List ℕ → Bool) → List Cell → List ℕ
since_look pid kind cells = noted_from (kind_on kind) (behind (clock_after pid cells).last) cells

-- with the packet after a history there is one
abbrev pub has_since : Option ℕ → (List ℕ → Bool) → List Cell → List ℕ → Bool
has_since pid kind history packet = has_some (since_look pid kind history ++ kind_on kind history packet)

-- what is kept is that of the cells met
pub record IsSinceLook (pid : Option ℕ) (kind : List ℕ → Bool) (kept : SinceLook) (history : List Cell) : Type 0 where
  pub is : kept.has_seen ≡ has_some (since_look pid kind history)

-- what is kept after a packet that is of the kind or not
abbrev pub seen_with : SinceLook → Span → Bool → SinceLook
seen_with kept span is = record { has_seen = if is_look span then false else kept.has_seen || is }
