-- When the PIDs that are referred to stand for the packets that were fed.
-- This project's own rule.
use Rattle.std.specs.Prelude.{Bool, ℕ, List}
use Rattle.plug_psi.specs.ReferredState.{Standing}
use Rattle.plug_psi.specs.declared.referred.Referred.{Referred}

-- the tables in force and the flags are those of all packets that were fed
abbrev pub StandsFor : Referred → List (List ℕ) → Type 0
StandsFor referred fed = Standing referred.force referred.one referred.flags referred.failed fed

-- whether memory ran out
abbrev pub has_failed : Referred → Bool
has_failed referred = referred.failed
