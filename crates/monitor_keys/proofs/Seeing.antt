-- Lemmas on packets of a kind since the last PCR.
use Rattle.std.proofs.Common.{◌≡◌, ℕ, List, [], ◌∷◌, ◌++◌, length, ap, sym, ◌∙◌, refl, Bool, true, false, ◌||◌, if◌then◌else◌, Option, arith, length-append, drop_of_length-le}
use Rattle.ts_packet.specs.declared.cell.Cell.{Cell}
use Rattle.ts_packet.specs.Cells.{Live, Dropped}
use Rattle.plug_clock.specs.StreamClock.{clock_after}
use Rattle.plug_clock.specs.declared.last_clock.LastClock.{LastClock}
use Rattle.plug_clock.specs.declared.stream_clock.StreamClock.{StreamClock}
use Rattle.plug_clock.proofs.Ticking.{clock-dropped, clock-live}
use Rattle.monitor_keys.specs.declared.since_look.SinceLook.{SinceLook}
use Rattle.monitor_keys.specs.declared.span.Span.{Span}
use Rattle.monitor_keys.specs.Keys.{behind, has_some, noted_from, span_on}
use Rattle.monitor_keys.specs.Looks.{is_look}
use Rattle.monitor_keys.specs.Since.{IsSinceLook, has_since, kind_on, seen_with, since_look}
use Rattle.monitor_keys.proofs.Keeping.{some-more}
use Rattle.monitor_keys.proofs.Noting.{noted-dropped, noted-live, noted-none}
use Rattle.monitor_keys.proofs.Reading.{after-behind, behind-at, met-same}

module _ (pid : Option ℕ) (kind : List ℕ → Bool) (history : List Cell) where
  -- a dropped cell leaves it
  pub since_dropped : (kept : SinceLook) → IsSinceLook pid kind kept history → IsSinceLook pid kind kept (history ++ Dropped ∷ [])
  since_dropped kept w = record {
    is = w.is
        ∙ sym (ap (λ (c : StreamClock). has_some (noted_from (kind_on kind) (behind c.last) (history ++ Dropped ∷ []))) (clock-dropped pid history)
        ∙ ap has_some (noted-dropped (kind_on kind) (behind (clock_after pid history).last) history (after-behind pid history)));
  }

  module _ (packet : List ℕ) where
    abbrev span : Span
    span = span_on pid history packet

    -- what was seen with the packet
    seen_with_packet : (has_some (since_look pid kind history) || kind packet) ≡ has_since pid kind history packet
    seen_with_packet = sym (some-more (since_look pid kind history) (kind packet) (length history))

    module _ (labels : ℕ) where
      abbrev more : List Cell
      more = history ++ Live packet labels ∷ []

      by_clock : since_look pid kind more ≡ noted_from (kind_on kind) (behind span.after.last) more
      by_clock = ap (λ (c : StreamClock). noted_from (kind_on kind) (behind c.last) more) (clock-live pid history packet labels)

      at_look : is_look span ≡ true → since_look pid kind more ≡ []
      at_look is =
          by_clock
          ∙ noted-none (kind_on kind) (behind span.after.last) more
          (drop_of_length-le more (omega (arith, length-append history (Live packet labels ∷ []), behind-at (length history) span.after.last is)))

      elsewhere : is_look span ≡ false → since_look pid kind more ≡ since_look pid kind history ++ kind_on kind history packet
      elsewhere is =
          by_clock
          ∙ (ap (λ (o : Option LastClock). noted_from (kind_on kind) (behind o) more) (met-same (clock_after pid history) (length history) packet is)
          ∙ noted-live (kind_on kind) (behind (clock_after pid history).last) history packet labels (after-behind pid history))

      seen_live : (if is_look span then false else has_some (since_look pid kind history) || kind packet) ≡ has_some (since_look pid kind more)
      seen_live = by_cases (is_look span) refl
        where
          by_cases : (b : Bool) → is_look span ≡ b → (if b then false else has_some (since_look pid kind history) || kind packet) ≡ has_some (since_look pid kind more)
          by_cases true is = ap has_some (sym (at_look is))
          by_cases false is = seen_with_packet ∙ ap has_some (sym (elsewhere is))

module _ (pid : Option ℕ) (kind : List ℕ → Bool) (kept : SinceLook) (history : List Cell) (packet : List ℕ) (span : Span) (is_one : Bool)
    (w : IsSinceLook pid kind kept history) (span_is : span ≡ span_on pid history packet) (one_is : is_one ≡ kind packet) where
  pub since_live : (labels : ℕ) (new : SinceLook) → new ≡ seen_with kept span is_one → IsSinceLook pid kind new (history ++ Live packet labels ∷ [])
  since_live labels new made = record {
    is = ap (λ (s : SinceLook). s.has_seen) made
        ∙ (ap (λ (s : Span). if is_look s then false else kept.has_seen || is_one) span_is
        ∙ (ap (λ (b : Bool). if is_look (span_on pid history packet) then false else b || is_one) w.is
        ∙ (ap (λ (b : Bool). if is_look (span_on pid history packet) then false else has_some (since_look pid kind history) || b) one_is
        ∙ seen_live pid kind history packet labels)));
  }

  pub since_told : (kept.has_seen || is_one) ≡ has_since pid kind history packet
  since_told =
      ap (λ (b : Bool). b || is_one) w.is
      ∙ (ap (λ (b : Bool). has_some (since_look pid kind history) || b) one_is ∙ seen_with_packet pid kind history packet)
