use Rattle.std.proofs.Common.{◌≡◌, ◌==◌, drop}
use Rattle.std.specs.List.{list_any}
use Rattle.plug_psi.proofs.PatLemmas.{pairs_of}
use Rattle.plug_rename.proofs.place.names_service.Given as goal

-- the entries that are left tell it
abbrev pub invariant-loop-entry : goal.invariant-loop-entry
invariant-loop-entry l =
    list_any (λ entry. entry.0 == l.id) (pairs_of (drop l.entry-index l.entries)) ≡ list_any (λ entry. entry.0 == l.id) (pairs_of l.entries)
