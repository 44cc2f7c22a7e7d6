-- Steps of reading the attributes of a table.
use Rattle.std.proofs.Common.{◌≡◌, ℕ, refl}
use Rattle.std.specs.Prelude.{Ok, Some}
use Rattle.serde_json.specs.Data.{Members}
use Rattle.ts_jtree.specs.declared.fault.ReadRefusal.{ReadRefusal}
use Rattle.ts_jtree.specs.declared.fault.ReadRefusal.TheVariants.{Json, NoMemory}
use Rattle.ts_jtree.specs.Faults.{Stops}
use Rattle.ts_json_tables.specs.ElementRows.{last_section_number_row, network_row, section_number_row}
use Rattle.ts_json_tables.specs.HeadReading.{numbers_in_order, read_number, read_numbers, read_pid}

pub pid_stops : (refusal : ReadRefusal) (ms : Members) → Stops refusal (read_number network_row ms) → Stops refusal (read_pid ms)
unfolding read_pid
pid_stops (Json fault) ms is = rw is refl
pid_stops NoMemory ms is = tt

pub pid_reads : (ms : Members) (n : ℕ) → read_number network_row ms ≡ Ok n → read_pid ms ≡ Ok (Some n)
unfolding read_pid
pid_reads ms n is = rw is refl

pub first_stops : (refusal : ReadRefusal) (ms : Members) → Stops refusal (read_number section_number_row ms) → Stops refusal (read_numbers ms)
unfolding read_numbers
first_stops (Json fault) ms is = rw is refl
first_stops NoMemory ms is = tt

pub last_stops : (refusal : ReadRefusal) (ms : Members) (first : ℕ) → read_number section_number_row ms ≡ Ok first
    → Stops refusal (read_number last_section_number_row ms) → Stops refusal (read_numbers ms)
unfolding read_numbers
last_stops (Json fault) ms first was is = rw (was, is) refl
last_stops NoMemory ms first was is = tt

pub order_stops : (refusal : ReadRefusal) (ms : Members) (first last : ℕ) → read_number section_number_row ms ≡ Ok first
    → read_number last_section_number_row ms ≡ Ok last → Stops refusal (numbers_in_order first last)
    → Stops refusal (read_numbers ms)
unfolding read_numbers
order_stops (Json fault) ms first last was had is = rw (was, had, is) refl
order_stops NoMemory ms first last was had is = tt

pub numbers_read : (ms : Members) (first last : ℕ) (n : ℕ × ℕ) → read_number section_number_row ms ≡ Ok first
    → read_number last_section_number_row ms ≡ Ok last → numbers_in_order first last ≡ Ok n → read_numbers ms ≡ Ok (Some n)
unfolding read_numbers
numbers_read ms first last n was had is = rw (was, had, is) refl
