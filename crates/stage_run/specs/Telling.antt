-- What a stage reports with its cells. This project's own rule.
use Rattle.std.specs.Prelude.{◌≡◌, ℕ, ◌-◌, min, nat_le, ◌||◌, Bool, true, false, Option, None, Some, if◌then◌else◌}
use Rattle.chain_model.specs.Apply.{OwnEnd, input_over, last_passed, stopped, refused}
use Rattle.chain_core.specs.declared.news.News.{News}
use Rattle.chain_core.specs.declared.stage_end.StageEnd.{StageEnd}
use Rattle.chain_core.specs.declared.stage_end.StageEnd.TheVariants.{Input, Last, Stop, Refuse, Followed}

-- the limit is known, and is no more than this
abbrev pub is_reached : Option ℕ → ℕ → Bool
is_reached None now = false
is_reached (Some limit) now = nat_le limit now

-- by the news, a stage that has given `now` cells may end by following
abbrev pub may_follow : News → ℕ → Bool
may_follow news now = news.before_over || (news.after_over || is_reached news.limit now)

-- the end of a stage that meets no end of its own
abbrev pub followed : News → ℕ → Option StageEnd
followed news now = if may_follow news now then Some Followed else None

-- `Followed` is reported where the news let the stage follow and it has met no end of its own, and nothing is reported where
-- they do not
abbrev pub FollowsNews : News → ℕ → Option StageEnd → Type 0
FollowsNews news now None = may_follow news now ≡ false
FollowsNews news now (Some Followed) = may_follow news now ≡ true
FollowsNews news now (Some _) = Unit {0}

-- how the end of a stage's own list is reported
abbrev pub end_told : OwnEnd → StageEnd
end_told (input_over how) = Input how
end_told last_passed = Last
end_told stopped = Stop
end_told (refused reason) = Refuse reason

-- what is reported of a list: its own end where it has one, and otherwise what the news let the stage report
abbrev pub told_of : Option OwnEnd → News → ℕ → Option StageEnd
told_of None news now = followed news now
told_of (Some own) news now = Some (end_told own)

-- of so many cells, those below the limit
abbrev pub below_limit : Option ℕ → ℕ → ℕ → ℕ
below_limit None at len = len
below_limit (Some limit) at len = min len (limit - at)
