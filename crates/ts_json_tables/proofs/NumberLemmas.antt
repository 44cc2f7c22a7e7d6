-- The number of a single row.
use Rattle.std.proofs.Common.{◌≡◌, ℕ, ◌-◌, ◌^◌, ◌<◌, Bool, true, false, List, [], ◌∷◌, ◌++◌, refl, ap, arith, subst}
use Rattle.std.specs.Prelude.{◌&&◌, Option, Some, None, Ok, Err, option_to_list, option_map, option_and_then, codes, bytes_eq, nat_lt, nat_le, if◌then◌else◌}
use Rattle.std.proofs.lemmas.Bool.{leb-true, ltb-true}
use Rattle.serde_json.specs.Data.{Data, Members}
use Rattle.serde_json.specs.Find.{as_bool, as_str, get_member}
use Rattle.ts_fields.specs.declared.field.Kind.{Kind}
use Rattle.ts_fields.specs.declared.field.Kind.TheVariants.{Number, Ones, Free, Flag, Start, Duration, Decimal, Reserved, Zeros, Language, CountedText, Text, CountedHex, Hex}
use Rattle.ts_fields.specs.Layout.{Row, Held, number}
use Rattle.ts_fields.specs.SoundRows.{is_sound}
use Rattle.ts_jtree.specs.declared.fault.JsonFault.{JsonFault}
use Rattle.ts_jtree.specs.declared.fault.JsonKind.{JsonKind}
use Rattle.ts_jtree.specs.Attributes.{attribute_of, flag_at, flag_attribute, holds_number, number_at, number_attribute, number_in, read_attribute, read_attributes, within}
use Rattle.ts_jtree.specs.Faults.{Reading, or_refuse, ◌>>=◌}
use Rattle.ts_jtree.specs.Numbers.{bit_of, bit_of_word, number_of, or_text, truth_bit}
use Rattle.ts_json_tables.specs.HeadReading.{default_below, is_number_row, number_bound, only_number, read_number}
use Rattle.ts_json_tables.proofs.StepLemmas.{both, then_ok, same_ok}

pub tested : {A : Type 0} (b : Bool) (x y : A) (fault : JsonFault) → (if b then Ok x else Err fault) ≡ Ok y
    → (b ≡ true) × (x ≡ y)
tested true x y fault is = (refl, same_ok _ _ is)
tested false x y fault is = cc

default_bound : (absent : Option ℕ) (bound : ℕ) (n : ℕ) → default_below absent bound ≡ true
    → absent ≡ Some n → n < bound
default_bound None bound n below is = cc
default_bound (Some m) bound n below is = let e : m ≡ n = cc in subst (λ k. k < bound) e (ltb-true m bound below)

pub given : (o : Option ℕ) (key : List ℕ) (what : JsonKind) (n : ℕ) → or_refuse o key what ≡ Ok n → o ≡ Some n
given (Some m) key what n is = ap Some (same_ok m n is)
given None key what n is = cc

pub number_small : (absent : Option ℕ) (range : Option (ℕ × ℕ)) (c : ℕ) (key : List ℕ) (ms : Members) (n : ℕ)
    → 0 < 2 ^ c → default_below absent (2 ^ c) ≡ true
    → number_attribute absent range (2 ^ c - 1) key ms ≡ Ok n → n < 2 ^ c
unfolding number_attribute number_in
number_small absent range c key ms n some below is = go (get_member key ms) is
  where
    go : (o : Option Data) → number_at absent range (2 ^ c - 1) key o ≡ Ok n → n < 2 ^ c
    go None is = default_bound absent (2 ^ c) n below (given absent key _ n is)
    go (Some value) is =
        then_ok (or_refuse (number_of value) key _) _ n is (λ m was later.
        let parts = tested (nat_le m (2 ^ c - 1) && within range m) m n _ later in
        let small = leb-true m (2 ^ c - 1) (both (nat_le m (2 ^ c - 1)) (within range m) parts.0).0 in
        omega (arith, parts.1, small, some))

word_small : (a b : Bool) (n : ℕ) → (if a then Some 1 else if b then Some 0 else None) ≡ Some n → n < 2
word_small true b n is = let e : 1 ≡ n = cc in omega (arith, e)
word_small false true n is = let e : 0 ≡ n = cc in omega (arith, e)
word_small false false n is = cc

bit_small : (value : Data) (n : ℕ) → bit_of value ≡ Some n → n < 2
unfolding bit_of
bit_small value n is = go (as_bool value) is
  where
    go_text : (t : Option (List ℕ)) → option_and_then bit_of_word t ≡ Some n → n < 2
    go_text None is = cc
    go_text (Some text) is = word_small (bytes_eq text (codes "true")) (bytes_eq text (codes "false")) n is

    go : (b : Option Bool) → or_text (option_map truth_bit b) bit_of_word value ≡ Some n → n < 2
    go (Some true) is = let e : 1 ≡ n = cc in omega (arith, e)
    go (Some false) is = let e : 0 ≡ n = cc in omega (arith, e)
    go None is = go_text (as_str value) is

pub flag_small : (absent : Option ℕ) (key : List ℕ) (ms : Members) (n : ℕ) → default_below absent 2 ≡ true
    → flag_attribute absent key ms ≡ Ok n → n < 2
unfolding flag_attribute
flag_small absent key ms n below is = go (get_member key ms) is
  where
    go : (o : Option Data) → flag_at absent key o ≡ Ok n → n < 2
    go None is = default_bound absent 2 n below (given absent key _ n is)
    go (Some value) is = bit_small value n (given (bit_of value) key _ n is)

held_small : (read : Reading ℕ) (bound : ℕ) (v : Option Held) → ((n : ℕ) → read ≡ Ok n → n < bound)
    → holds_number read ≡ Ok v → only_number (option_to_list v ++ []) < bound
held_small (Ok n) bound v small is =
    let e : Some (number n) ≡ v = same_ok _ _ is in
    subst (λ z. only_number (option_to_list z ++ []) < bound) e (small n refl)
held_small (Err fault) bound v small is = cc

kind_bound : (kind : Kind) (name : List ℕ) (absent : Option ℕ) (range : Option (ℕ × ℕ)) (ms : Members)
    (v : Option Held) → 0 < number_bound kind → default_below absent (number_bound kind) ≡ true
    → attribute_of kind name absent range ms ≡ Ok v → only_number (option_to_list v ++ []) < number_bound kind
unfolding attribute_of
kind_bound (Number c) name absent range ms v some below is =
    held_small (number_attribute absent range (2 ^ c - 1) name ms) (2 ^ c) v (λ n. number_small absent range c name ms n some below) is
kind_bound Flag name absent range ms v some below is =
    held_small (flag_attribute absent name ms) 2 v (λ n. flag_small absent name ms n below) is
kind_bound (Ones c) name absent range ms v some below is = absurd (omega arith)
kind_bound (Free c) name absent range ms v some below is = absurd (omega arith)
kind_bound Start name absent range ms v some below is = absurd (omega arith)
kind_bound Duration name absent range ms v some below is = absurd (omega arith)
kind_bound (Decimal c) name absent range ms v some below is = absurd (omega arith)
kind_bound (Reserved c) name absent range ms v some below is = absurd (omega arith)
kind_bound (Zeros c) name absent range ms v some below is = absurd (omega arith)
kind_bound Language name absent range ms v some below is = absurd (omega arith)
kind_bound CountedText name absent range ms v some below is = absurd (omega arith)
kind_bound Text name absent range ms v some below is = absurd (omega arith)
kind_bound Hex name absent range ms v some below is = absurd (omega arith)
kind_bound CountedHex name absent range ms v some below is = absurd (omega arith)

-- the number is one that the row can hold
pub number_bounded : (r : Row) (ms : Members) (n : ℕ) → is_number_row r ≡ true → read_number r ms ≡ Ok n
    → n < number_bound r.kind
unfolding read_number read_attributes
number_bounded r ms n row is =
    let parts = both (is_sound r.kind) _ row in
    let bounds = both (nat_lt 0 (number_bound r.kind)) (default_below r.absent (number_bound r.kind)) parts.1 in
    then_ok (read_attribute r ms) _ n (joined (read_attribute r ms) is) (λ v was later.
    let e : only_number (option_to_list v ++ []) ≡ n = same_ok _ _ later in
    subst (λ k. k < number_bound r.kind) e
    (kind_bound r.kind r.name r.absent r.range ms v (ltb-true 0 (number_bound r.kind) bounds.0) bounds.1 was))
  where
    joined : (read : Reading (Option Held)) → ((read >>= λ v. ◌>>=◌ {A = List Held} {B = List Held} (Ok []) (λ more. Ok (option_to_list v ++ more))) >>= λ values. Ok (only_number values)) ≡ Ok n
        → (read >>= λ v. Ok (only_number (option_to_list v ++ []))) ≡ Ok n
    joined (Ok v) is = is
    joined (Err fault) is = cc

pub number_read : (r : Row) (ms : Members) (values : List Held) → read_attributes (r ∷ []) ms ≡ Ok values
    → read_number r ms ≡ Ok (only_number values)
unfolding read_number
number_read r ms values is = rw is refl
