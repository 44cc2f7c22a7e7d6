-- What the packing of a flow is seen as, and what its steps do.
-- This project's own rule.
use Rattle.std.specs.Prelude.{◌≡◌, ℕ, ◌%◌, List, ◌++◌}
use Rattle.section_flow.specs.Flow.{Waiting, given_for}

-- the PID, the bytes and sections that wait, and the counter of the next packet with a payload
pub record PackingState : Type 0 where
  pub pid : ℕ
  pub rest : List ℕ
  pub sections : List (List ℕ)
  pub counter : ℕ

-- these are the bytes and sections that wait, and the counter is that of the number of packets
pub record Holds (packing : PackingState) (waiting : Waiting) : Type 0 where
  pub rest : packing.rest ≡ waiting.rest
  pub sections : packing.sections ≡ waiting.sections
  pub counter : packing.counter ≡ waiting.number % 16

-- what a packing puts in the place of a packet, whatever it holds, and what it holds then
pub record Puts (old new : PackingState) (packet put : List ℕ) : Type 0 where
  pub same_pid : new.pid ≡ old.pid
  pub placed : (waiting : Waiting) → Holds old waiting → put ≡ (given_for old.pid waiting packet).packet
  pub held : (waiting : Waiting) → Holds old waiting → Holds new (given_for old.pid waiting packet).waiting

-- sections joined what a packing holds
pub record Joins (old new : PackingState) (ready : List (List ℕ)) : Type 0 where
  pub same_pid : new.pid ≡ old.pid
  pub same_rest : new.rest ≡ old.rest
  pub same_counter : new.counter ≡ old.counter
  pub joined : new.sections ≡ old.sections ++ ready
