-- For how many positions plugins made room before a run, and which of them may run out of memory. This project's own rule.
use Rattle.std.specs.Prelude.{ℕ, ◌-◌, ◌≤◌, List, length, Option, None, slice_index_or}
use Rattle.plugin_trait.specs.Steps.{IsPreallocatedFor}

-- stage `k` may run out of memory: it is a plugin's, the first one's being stage 1, and that plugin made no room for the buffer
pub record WantsMemory (rooms : List (Option ℕ)) (buffer k : ℕ) : Type 0 where
  pub after_input : 1 ≤ k
  pub there_is : k ≤ length rooms
  pub no_room : IsPreallocatedFor (slice_index_or rooms (k - 1) None) buffer → ⊥
