-- A descriptor that was written is known by its bits.
use Rattle.std.proofs.Common.{◌≡◌, ℕ, ◌*◌, ◌<◌, ◌≤◌, Bool, true, false, List, length, refl, sym, ap, ◌∙◌, arith}
use Rattle.std.specs.Prelude.{nat_lt, Some, None, if◌then◌else◌}
use Rattle.std.specs.List.{All}
use Rattle.std.proofs.lemmas.List.Sums.{list_all-from_AllPass}
use Rattle.ts_bits.specs.TaggedBody.{TaggedBody, IsDescriptor}
use Rattle.ts_fields.specs.Bits.{bits_of}
use Rattle.ts_fields.specs.Bodies.{Page, Holding, spell_page}
use Rattle.ts_fields.specs.Fitting.{are_bytes}
use Rattle.ts_table_rows.specs.BodySpelling.{bytes_of}
use Rattle.ts_descr.specs.Descriptors.{IsWritten, body_size}
use Rattle.plug_psi.specs.WrittenDescriptor.{written}

told : (n m : ℕ) → n < m → nat_lt n m ≡ true
told n m below = grind (arith, below)

not-told : (n m : ℕ) → m ≤ n → nat_lt n m ≡ false
not-told n m above = grind (arith, above)

bytes-small : (row : List ℕ) → All (λ x. x < 256) row → are_bytes row ≡ true
bytes-small row small = list_all-from_AllPass (λ x. nat_lt x 256) row (λ k d inside. told _ 256 (small k d inside))

chosen : {A : Type 0} (b : Bool) (x y : A) → b ≡ false → y ≡ (if b then x else y)
chosen true x y e = cc
chosen false x y e = refl

abbrev tagged : ℕ → List ℕ → TaggedBody
tagged tag body = record { tag = tag; body = body }

-- what was written is the descriptor of the definition
pub written_is :
    ((row : List ℕ) (bits : List Bool) → are_bytes row ≡ true → bits_of row ≡ bits → row ≡ bytes_of bits) →
    ((row : List ℕ) → length (bits_of row) ≡ 8 * length row) →
    (p : Page) (h : Holding) (d : TaggedBody) → IsDescriptor d → IsWritten p h d → Some d ≡ written p h
written_is by_bits size p h d fits is =
    let whole : length (spell_page p h) ≡ 8 * length d.body = sym (ap length is.same_bits) ∙ size d.body in
    let small : body_size p h ≤ 255 = omega (arith, whole, is.room) in
    let body : d.body ≡ bytes_of (spell_page p h) = by_bits d.body (spell_page p h) (bytes-small d.body fits.bytes) is.same_bits in
    ap (λ t. Some (tagged t d.body)) is.same_tag ∙ ap (λ b. Some (tagged p.tag b)) body
    ∙ chosen (nat_lt 255 (body_size p h)) None (Some (tagged p.tag (bytes_of (spell_page p h)))) (not-told 255 (body_size p h) small)
