-- What is left of a desk whose output was written and closed.
use Rattle.std.proofs.Common.{◌≡◌, ℕ, ◌≤◌, ◌<◌, List, [], ◌∷◌, Bool, true, false, Option, None, Some, Result, Ok, Err, refl, ap, sym, ◌∙◌, take, length, arith, le_refl}
use Rattle.std.specs.Prelude.{is_err}
use Rattle.std.specs.Option.{option_map}
use Rattle.std.proofs.lemmas.List.{take_all}
use Rattle.ts_outside.specs.declared.faults.Failed.{Failed}
use Rattle.ts_outside.specs.Told.{grown}
use Rattle.ts_outside.specs.Sink.{SinkView, took, write_failed}
use Rattle.ts_outside.specs.Desk.{DeskView, asked_well, with_output, output_closed}
use Rattle.tabcomp_top.specs.Putting.{Closes, Puts, closed, closed_short, cut_short, new_sink}
use Rattle.tabcomp_top.specs.declared.status.TabStatus.TheVariants.{WriteFault}
use Rattle.ts_outside.specs.declared.requests.Purpose.TheVariants.{Output}

-- the outputs with one that took these bytes
outputs-closed : (told : Option (List (List ℕ × List ℕ))) (name bytes : List ℕ) (faults : ℕ)
    → with_output told (record { taken = grown (option_map (λ _. []) told) bytes; name = option_map (λ _. name) told; faults = faults })
    ≡ grown told ((name, bytes) ∷ [])
outputs-closed None name bytes faults = refl
outputs-closed (Some told) name bytes faults = refl

-- nothing failed
closed-well : (desk : DeskView) (name bytes : List ℕ) → output_closed desk (took (new_sink desk name) bytes) false ≡ closed desk name bytes
closed-well desk name bytes = ap (λ (o : Option (List (List ℕ × List ℕ))). record desk { outputs = o }) (outputs-closed desk.outputs name bytes 0)

-- the closing failed alone
closed-badly : (desk : DeskView) (name bytes : List ℕ) → output_closed desk (took (new_sink desk name) bytes) true ≡ closed_short desk name bytes
closed-badly desk name bytes =
    ap (λ (o : Option (List (List ℕ × List ℕ))). record (closed_short desk name bytes) { outputs = o }) (outputs-closed desk.outputs name bytes 0)

-- the writing failed
closed-unwritten : (desk : DeskView) (name bytes : List ℕ) (failed : Bool)
    → output_closed desk (write_failed (took (new_sink desk name) bytes)) failed ≡ closed_short desk name bytes
closed-unwritten desk name bytes failed =
    ap (λ (o : Option (List (List ℕ × List ℕ))). record (closed_short desk name bytes) { outputs = o }) (outputs-closed desk.outputs name bytes 1)

-- all was written, and the closing failed or did not
pub closes : (answer : Result Unit Failed) (old new : DeskView) (opened sink : SinkView) (name bytes : List ℕ)
    → opened ≡ new_sink old name → sink ≡ took opened bytes → new ≡ output_closed old sink (is_err answer)
    → Closes name bytes old new answer
closes (Ok x) old new opened sink name bytes fresh whole is =
    is ∙ ap (λ (s : SinkView). output_closed old s false) (whole ∙ ap (λ (s : SinkView). took s bytes) fresh) ∙ closed-well old name bytes
closes (Err fault) old new opened sink name bytes fresh whole is = (
  length bytes,
  le_refl (length bytes),
  is ∙ ap (λ (s : SinkView). output_closed old s true) (whole ∙ ap (λ (s : SinkView). took s bytes) fresh) ∙ closed-badly old name bytes
      ∙ ap (λ (b : List ℕ). closed_short old name b) (sym (take_all (length bytes) bytes (le_refl (length bytes)))),
)

-- writing failed after the first bytes, whatever the closing returned
pub closes-short : (failed : Bool) (old new : DeskView) (opened sink : SinkView) (name bytes : List ℕ) (count : ℕ)
    → opened ≡ new_sink old name → count < length bytes → sink ≡ write_failed (took opened (take count bytes))
    → new ≡ output_closed old sink failed
    → (n : ℕ) × (n ≤ length bytes) × (new ≡ closed_short old name (take n bytes))
closes-short failed old new opened sink name bytes count fresh less front is =
    let within : count ≤ length bytes = omega (arith, less) in (
      count,
      within,
      is ∙ ap (λ (s : SinkView). output_closed old s failed) (front ∙ ap (λ (s : SinkView). write_failed (took s (take count bytes))) fresh)
          ∙ closed-unwritten old name (take count bytes) failed,
    )

-- an output was opened and closed short
pub puts-short : (name bytes : List ℕ) (old mid new : DeskView) → mid ≡ asked_well old Output name
    → ((n : ℕ) × (n ≤ length bytes) × (new ≡ closed_short mid name (take n bytes))) → Puts name bytes old new WriteFault
puts-short name bytes old mid new asked short = record {
  end = cut_short short.0;
  can_end = short.1;
  status_is = refl;
  desk_is = short.2 ∙ ap (λ (d : DeskView). closed_short d name (take short.0 bytes)) asked;
}
