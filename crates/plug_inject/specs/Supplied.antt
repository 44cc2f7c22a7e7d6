-- What is kept of the packets that are put in. This project's own rule.
use Rattle.std.specs.Prelude.{ℕ}
use Rattle.plug_inject.specs.Contents.{Contents, cycle, groups}
use Rattle.plug_inject.specs.Scheduled.{Scheduled}
use Rattle.plug_inject.specs.declared.supply.Kind.{Kind}
use Rattle.plug_inject.specs.declared.supply.Kind.TheVariants.{Cycle, Groups}

-- what is put in, and how many packets were
pub record Supplied : Type 0 where
  pub contents : Contents
  pub given : ℕ

-- the contents that a value stands for
abbrev pub contents_of : Kind → Contents
contents_of (Cycle rows) = cycle rows
contents_of (Groups schedule) = groups schedule.groups.items

-- it has given so many packets
abbrev pub Keeps : Kind → ℕ → Type 0
Keeps (Cycle rows) given = Unit {0}
Keeps (Groups schedule) given = Scheduled schedule given
