-- The answer of a turn whose stage goes on.
use Rattle.std.proofs.Common.{◌≡◌, ℕ, ◌<◌, ◌==◌, List, [], ◌∷◌, length, Option, None, Some, Bool, true, false, refl, sym, ◌∙◌, subst, arith, inl, inr}
use Rattle.std.specs.Prelude.{is_some, IsSome}
use Rattle.std.proofs.lemmas.Bool.{ne_eqb}
use Rattle.cell_land.specs.declared.cell_window.Bases.{Bases}
use Rattle.ts_packet.specs.declared.cell.Cell.{Cell}
use Rattle.chain_core.specs.declared.stage_end.StageEnd.{StageEnd}
use Rattle.chain_core.specs.declared.stage_word.StageWord.{StageWord}
use Rattle.stage_run.specs.Seeing.{Seeing}
use Rattle.stage_run.specs.declared.stage_part.StagePart.{StagePart}
use Rattle.chain_run.specs.Runs.{RunStart}
use Rattle.atomic_table.specs.Seated.{TableId}
use Rattle.window_ring.specs.declared.stage_seat.StageSeat.{StageSeat}
use Rattle.chain_threads.specs.declared.stage.Stage.{Stage}
use Rattle.chain_threads.specs.declared.turn.Turn.{Turn}
use Rattle.chain_threads.specs.Standing.{StandsAt}
use Rattle.chain_threads.specs.Turning.{answer_of, MadeVisit, Stands, Behind}

none-left : (l : List Cell) → true ≡ (length l == 0) → l ≡ []
none-left [] e = refl
none-left (x ∷ xs) e = (let f : true ≡ false = e ∙ ne_eqb (length (x ∷ xs)) 0 (λ z. absurd (omega (arith, z))) in cc)

some-left : (l : List Cell) → false ≡ (length l == 0) → 0 < length l
some-left [] e = (let f : false ≡ true = e in cc)
some-left (x ∷ xs) e = omega arith

module _ {S K P : Type 0} (see : Seeing S K P) (begun : RunStart S K) (base : Bases) (table : TableId) (old new : Stage S K P) where
  by-word : (empty : Bool) (told : Option StageEnd) → told ≡ new.word.ended → empty ≡ (length new.seat.hand.cells == 0) → Stands see begun base table new → MadeVisit old new
      → Behind see begun base table (answer_of empty (is_some told)) old new
  by-word true None is none s m = (s, m, none-left new.seat.hand.cells none, sym is)
  by-word true (Some e) is none s m = (s, m, inr (subst IsSome is refl))
  by-word false None is some s m = (s, m, inl (some-left new.seat.hand.cells some))
  by-word false (Some e) is some s m = (s, m, inl (some-left new.seat.hand.cells some))

  pub behind-of : (t : Turn) (empty : Bool) → t ≡ answer_of empty (is_some new.word.ended) → empty ≡ (length new.seat.hand.cells == 0) → Stands see begun base table new → MadeVisit old new → Behind see begun base table t old new
  behind-of t empty is none s m = subst (λ a. Behind see begun base table a old new) (sym is) (by-word empty new.word.ended refl none s m)

module _ {S K P : Type 0} (see : Seeing S K P) (begun : RunStart S K) (base : Bases) (table : TableId) where
  -- the same of a stage by its fields
  pub behind-parts : (old : Stage S K P) (seat : StageSeat) (part : StagePart S K P) (done : ℕ) (word : StageWord) (over : Bool) (t : Turn) (empty : Bool) → t ≡ answer_of empty (is_some word.ended) → empty ≡ (length seat.hand.cells == 0)
      → StandsAt see begun base table seat part done word → MadeVisit old (record { seat = seat; part = part; done = done; word = word; over = over })
      → Behind see begun base table t old (record { seat = seat; part = part; done = done; word = word; over = over })
  behind-parts old seat part done word over t empty is none s m = behind-of see begun base table old (record { seat = seat; part = part; done = done; word = word; over = over }) t empty is none s m
