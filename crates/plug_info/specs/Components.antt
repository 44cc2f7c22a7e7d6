-- The components of a PMT. This project's own rule.
use Rattle.std.specs.Prelude.{ℕ, drop, Bool, List}
use Rattle.std.specs.List.{list_any}
use Rattle.ts_table_rows.specs.BodyReading.{first_number}
use Rattle.ts_table_rows.specs.TableValues.{ItemHolding}
use Rattle.named_services.specs.SdtInForce.{is_number}

-- one of the components has the PID
abbrev pub has_item : List ItemHolding → ℕ → Bool
has_item items pid = list_any (λ x. is_number pid (first_number (drop 1 x.values))) items
