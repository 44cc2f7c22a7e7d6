-- The number and the Boolean of the attribute of one row.
use Rattle.std.proofs.Common.{◌≡◌, ℕ, Bool, true, false, [], ◌∷◌, refl, ap}
use Rattle.std.specs.Prelude.{Ok, nat_eq}
use Rattle.serde_json.specs.Data.{Members}
use Rattle.ts_fields.specs.Layout.{Row, number}
use Rattle.ts_jtree.specs.Attributes.{read_attributes}
use Rattle.ts_jtree.specs.Numbers.{truth_bit}
use Rattle.ts_json_tables.specs.HeadReading.{read_number, read_truth}
use Rattle.ts_json_tables.specs.TableElements.{truth}
use Rattle.ts_json_tables.proofs.NumberLemmas.{number_read}

truth_again : (b : Bool) → nat_eq (truth_bit b) 1 ≡ b
truth_again true = refl
truth_again false = refl

pub number_again : (r : Row) (ms : Members) (n : ℕ) → read_attributes (r ∷ []) ms ≡ Ok (number n ∷ []) → read_number r ms ≡ Ok n
number_again r ms n is = number_read r ms (number n ∷ []) is

pub truth_read : (r : Row) (ms : Members) (b : Bool) → read_attributes (r ∷ []) ms ≡ Ok (truth b ∷ []) → read_truth r ms ≡ Ok b
unfolding read_truth
truth_read r ms b is = rw (number_again r ms (truth_bit b) is) (ap Ok (truth_again b))
