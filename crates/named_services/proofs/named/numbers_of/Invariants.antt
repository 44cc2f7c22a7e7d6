use Rattle.std.proofs.Common.{◌≡◌, drop}
use Rattle.std.specs.Prelude.{fold, option_map}
use Rattle.std.specs.List.{filter_map}
use Rattle.std.specs.Option.{option_copied}
use Rattle.ts_si.specs.SiTables.{sdt_held}
use Rattle.named_services.specs.NamedServices.{number_by, numbers_by}
use Rattle.named_services.specs.ServiceLists.{with_service}
use Rattle.named_services.proofs.named.numbers_of.Given as goal

-- the services so far, with those of the words that are left
abbrev pub invariant-loop-word : goal.invariant-loop-word
invariant-loop-word l = fold with_service l.services (filter_map (number_by (option_map sdt_held (option_copied l.sdt))) (drop l.word-index l.words))
    ≡ numbers_by l.words (option_map sdt_held (option_copied l.sdt))
