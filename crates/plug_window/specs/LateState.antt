-- What the delay line of `rmorphan` stands for. This project's own rule.
use Rattle.std.specs.Prelude.{◌≡◌, ℕ, ◌≤◌, nat_lt, List, [], ◌∷◌, ◌++◌, length, slice_get, Option, None, if◌then◌else◌}
use Rattle.circular_buffer.specs.Buffer.{keep_last}
use Rattle.ts_packet.specs.declared.labelled.Labelled.{Labelled}
use Rattle.ts_packet.specs.LiveRows.{packets_in}
use Rattle.plug_psi.specs.ReferredStands.{StandsFor as Refers}
use Rattle.plug_window.specs.declared.late_line.LateLine.{LateLine}

-- the item that leaves a line of at most `n` items when `x` is appended
abbrev pub leaves : {X : Type 0} → ℕ → List X → X → Option X
leaves n items x = if nat_lt (length items) n then None else slice_get (items ++ x ∷ []) 0

-- the line has the last of the packets that came in, and the PIDs that all of them refer to
pub record StandsFor (line : LateLine) (rows : List Labelled) : Type 0 where
  pub some_window : 1 ≤ line.late.capacity
  pub late : line.late.items ≡ keep_last line.late.capacity rows
  pub referred : Refers line.referred (packets_in rows)
