-- The work of a stage that agrees to nothing, put together.
use Rattle.std.proofs.Common.{◌≡◌, ℕ, ◌+◌, ◌≤◌, List, length, drop, sym, subst, Option, None, Some, if◌then◌else◌, Bool, true, false}
use Rattle.ts_packet.specs.declared.cell.Cell.{Cell}
use Rattle.chain_core.specs.declared.news.News.{News}
use Rattle.chain_core.specs.declared.stage_end.StageEnd.{StageEnd}
use Rattle.chain_core.specs.declared.stage_end.StageEnd.TheVariants.{NoMemory, Followed}
use Rattle.stage_run.specs.declared.work.Work.{Work}
use Rattle.stage_run.specs.PartLists.{PartLists}
use Rattle.stage_run.specs.PartStands.{MayWork}
use Rattle.stage_run.specs.Telling.{FollowsNews, may_follow, followed}
use Rattle.stage_run.specs.Works.{Works, StageWork}
use Rattle.stage_run.proofs.InputWorking.{plain_work}

pub plain-stage : (Old New : PartLists → Option StageEnd → Type 0) (Wants : ℕ → Type 0) (Rests : List Cell → List Cell → Type 0) (Fills : ℕ → ℕ → Type 0) (Does : Work → PartLists → PartLists → Type 0)
    (at : ℕ) (news : News) (cells cells_new : List Cell) (work : Work) (done : ℕ) (told : Option StageEnd)
    → work ≡ plain_work done told → done ≤ length cells → Rests (drop done cells) (drop done cells_new)
    → (told ≡ None → Fills (length cells) done) → FollowsNews news (at + done) told → (told ≡ Some NoMemory → ⊥)
    → ((before : PartLists) → MayWork Old at news.written before
    → Works New (Does (plain_work done told) before) before news.written cells cells_new (plain_work done told))
    → StageWork Old New Wants Rests Fills (Does work) at news cells cells_new work
plain-stage Old New Wants Rests Fills Does at news cells cells_new work done told is few rest goes_on follows memory works =
    subst (λ (w : Work). StageWork Old New Wants Rests Fills (Does w) at news cells cells_new w) (sym is)
    (record { done = few; rest = rest; goes_on = goes_on; follows = follows; agreed = λ agreed e. cc; memory = λ e. absurd (memory e); works = works })

-- a stage that follows its news does not run out of memory
pub followed-memory : (news : News) (now : ℕ) → followed news now ≡ Some NoMemory → ⊥
followed-memory news now e = by (may_follow news now) e
  where
    by : (b : Bool) → (if b then Some Followed else None) ≡ Some NoMemory → ⊥
    by true e' = cc
    by false e' = cc
