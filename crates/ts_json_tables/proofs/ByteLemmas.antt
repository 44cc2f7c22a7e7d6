-- Bytes and their bits, and how many children there are.
use Rattle.std.proofs.Common.{◌≡◌, ℕ, ◌<◌, Bool, true, false, List, [], ◌∷◌, length, refl, sym, ap, arith}
use Rattle.std.specs.Prelude.{Ok, All, nat_lt}
use Rattle.std.proofs.lemmas.Bool.{and_from, lt-ltb}
use Rattle.std.proofs.lemmas.List.Elements.{All-head, All-tail}
use Rattle.serde_json.specs.Data.{Data, Items}
use Rattle.serde_json.specs.declared.value.Value.{Value}
use Rattle.serde_json.specs.View.{items_view, items_of}
use Rattle.ts_bits.specs.TaggedBody.{TaggedBody}
use Rattle.ts_fields.specs.Bits.{bits_of}
use Rattle.ts_fields.specs.Fitting.{are_bytes}
use Rattle.ts_jtree.specs.declared.fault.JsonKind.TheVariants.{OutOfRange}
use Rattle.ts_jtree.specs.declared.fault.ReadRefusal.{ReadRefusal}
use Rattle.ts_jtree.specs.Elements.{nodes_key}
use Rattle.ts_jtree.specs.Faults.{IsRefusal, Stops}
use Rattle.ts_json_descr.specs.DescrReading.{descr_read}
use Rattle.ts_table_rows.specs.BodySpelling.{bytes_of}
use Rattle.ts_json_tables.specs.TableReading.{count_of, is_valid_count, read_descr, sections_counted}
use Rattle.ts_json_tables.proofs.StepLemmas.{refusal_stops}

pub all_bytes : (row : List ℕ) → All (λ x. x < 256) row → are_bytes row ≡ true
all_bytes [] all = refl
all_bytes (x ∷ row) all =
    and_from (nat_lt x 256) (are_bytes row) (lt-ltb x 256 (All-head (λ y. y < 256) x row all)) (all_bytes row (All-tail (λ y. y < 256) x row all))

-- bytes are given by their bits
abbrev pub BytesTold : Type 0
BytesTold = (row : List ℕ) (bits : List Bool) → are_bytes row ≡ true → bits_of row ≡ bits → row ≡ bytes_of bits

pub descr_told : BytesTold → (value : Data) (d : TaggedBody) → All (λ x. x < 256) d.body
    → descr_read value ≡ Ok (d.tag, bits_of d.body) → read_descr value ≡ Ok d
unfolding read_descr
descr_told law value d small is =
    rw is (ap (λ b. Ok (record { tag = d.tag; body = b })) (sym (law d.body (bits_of d.body) (all_bytes d.body small) refl)))

pub count_list : (ds : List Data) → count_of (items_of ds) ≡ length ds
count_list [] = refl
count_list (d ∷ ds) = omega (arith, count_list ds)

count_view : (vs : List Value) → count_of (items_view vs) ≡ length vs
count_view [] = refl
count_view (v ∷ vs) = omega (arith, count_view vs)

pub counted_out : (eit : Bool) (vs : List Value) (refusal : ReadRefusal) → is_valid_count eit (length vs) ≡ false
    → IsRefusal refusal nodes_key OutOfRange → Stops refusal (sections_counted eit (items_view vs))
counted_out eit vs refusal is told = rw (count_view vs, is) (refusal_stops Items refusal _ _ told)

pub counted_in : (eit : Bool) (vs : List Value) → is_valid_count eit (length vs) ≡ true
    → sections_counted eit (items_view vs) ≡ Ok (items_view vs)
counted_in eit vs is = rw (count_view vs, is) refl
