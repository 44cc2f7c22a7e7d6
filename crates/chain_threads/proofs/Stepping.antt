-- A turn of a stage that goes on.
use Rattle.std.proofs.Common.{◌≡◌, Bool, true, false, sym, ◌∙◌}
use Rattle.cell_land.specs.declared.cell_window.Bases.{Bases}
use Rattle.stage_run.specs.Seeing.{Seeing}
use Rattle.chain_run.specs.Runs.{RunStart}
use Rattle.atomic_table.specs.Seated.{TableId}
use Rattle.window_ring.specs.declared.ring.Ring.{Ring}
use Rattle.window_ring.specs.Seats.{key_of, table_of}
use Rattle.chain_threads.specs.declared.stage.Stage.{Stage}
use Rattle.chain_threads.specs.declared.turn.Turn.{Turn}
use Rattle.chain_threads.specs.declared.turn.Turn.TheVariants.{Busy, Ended, Idle, Worked}
use Rattle.chain_threads.specs.Standing.{key_at}
use Rattle.chain_threads.specs.Turning.{Stands, Behind}
use Rattle.chain_threads.specs.Driving.{is_ended, Holds, IsReady, Keeps}

module _ {S K P : Type 0} (see : Seeing S K P) (ring : Ring) where
  pub may_turn : (s : Stage S K P) → s.over ≡ false → IsReady see ring s → (begun : RunStart S K) × (base : Bases) × (key_of ring ≡ key_at begun base) × Stands see begun base (table_of ring) s
  unfolding IsReady
  may_turn s going r = (r.0, r.1, r.2, r.3.0 going)

  -- a stage with another mark of whether it has ended
  abbrev pub marked : Stage S K P → Bool → Stage S K P
  marked s over = record { seat = s.seat; part = s.part; done = s.done; word = s.word; over = over }

  holds : (begun : RunStart S K) (base : Bases) (table : TableId) (t : Turn) (old new : Stage S K P) (over : Bool) → over ≡ is_ended t → Behind see begun base table t old new → Holds see begun base table (marked new over)
  holds begun base table Busy old new over is b = (λ f. b.0, λ t. absurd (let f : true ≡ false = sym t ∙ is in cc))
  holds begun base table Ended old new over is b = (λ f. absurd (let t : true ≡ false = sym is ∙ f in cc), λ t. b.0)
  holds begun base table Idle old new over is b = (λ f. b.0, λ t. absurd (let f : true ≡ false = sym t ∙ is in cc))
  holds begun base table Worked old new over is b = (λ f. b.0, λ t. absurd (let f : true ≡ false = sym t ∙ is in cc))

  pub stepped : (t : Turn) (old new : Stage S K P) (over : Bool) → old.over ≡ false → over ≡ is_ended t → new.seat.stage ≡ old.seat.stage
      → ((begun : RunStart S K) (base : Bases) → key_of ring ≡ key_at begun base → Stands see begun base (table_of ring) old → Behind see begun base (table_of ring) t old new)
      → Keeps see ring old (marked new over)
  unfolding Keeps
  stepped t old new over going is stage behind = (stage, λ begun base e h. holds begun base (table_of ring) t old new over is (behind begun base e (h.0 going)))
