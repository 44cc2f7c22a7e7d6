-- Lemmas on the PIDs of components that are waited for.
use Rattle.std.proofs.Common.{◌≡◌, ℕ, ◌<◌, List, [], ◌∷◌, ◌++◌, filter, ap, sym, ◌∙◌, append-nil, append_assoc, inl, inr, refl, Bool, true, false, ◌==◌, ◌&&◌, ◌||◌, not, if◌then◌else◌, Option}
use Rattle.std.proofs.lemmas.Bool.{and_cases, and_left, and_parts, and_right, both_ways, eqb-true, not-false, or_parts}
use Rattle.ts_packet.specs.declared.cell.Cell.{Cell}
use Rattle.ts_packet.specs.Cells.{Live, live_packets}
use Rattle.ts_packet.specs.Header.{pid_of}
use Rattle.plugin_notes.specs.PidPackets.{numbers_below}
use Rattle.plug_psi.specs.SameForce.{SameInForce}
use Rattle.monitor_keys.specs.Keys.{span_on}
use Rattle.monitor_keys.specs.Looks.{is_look}
use Rattle.monitor_rows.specs.declared.key_row.KeyRow.{KeyRow}
use Rattle.monitor_rows.specs.KeyRows.{RowRule, has_number}
use Rattle.monitor_rows.specs.RowStands.{AreOccurring, IsRow, SameNames}
use Rattle.monitor_rows.proofs.Numbers.{chosen_same}
use Rattle.monitor_rows.proofs.Rowing.{names_stay}
use Rattle.monitor_tables.specs.TableIds.{is_scrambled}
use Rattle.monitor_services.specs.RowStands.{HasStampRow, HasStarted, IsNamedWith}
use Rattle.monitor_services.specs.StampErrors.{has_stamp, is_component, is_started, stamp_rule, starts_from, starts_in, starts_with}
use Rattle.monitor_services.specs.declared.limits.TheConstants.{PID_NUMBERS}
use Rattle.monitor_services.specs.declared.pid_kind.PidKind.TheVariants.{Component}
use Rattle.monitor_services.specs.declared.stamp_row.StampRow.{StampRow}
use Rattle.monitor_services.proofs.Naming.{live-more, no-key, no-pids-named, pids-same}
use Rattle.monitor_services.proofs.Sorting.{chosen_member}

-- ---- before any packet

fails : (f : ℕ → Bool) → ((n : ℕ) → f n ≡ false) → (ns : List ℕ) → filter f ns ≡ []
fails f none [] = refl
fails f none (n ∷ ns) = ap (λ (b : Bool). if b then n ∷ filter f ns else filter f ns) (none n) ∙ fails f none ns

pub not-started : (row : StampRow) → row.components.items ≡ [] → row.started.items ≡ [] → HasStarted row []
not-started row no_components none_started = record {
  components_are = no_components ∙ sym (fails (is_component []) (no-pids-named Component) (numbers_below PID_NUMBERS));
  started_are = none_started ∙ sym (fails (is_started []) (λ n. refl) (numbers_below PID_NUMBERS));
}

-- ---- one packet more

starts-append : (fed xs ys : List (List ℕ)) (pid : ℕ) (was : Bool)
    → starts_from fed pid was (xs ++ ys) ≡ starts_from (fed ++ xs) pid (starts_from fed pid was xs) ys
starts-append fed [] ys pid was = ap (λ (f : List (List ℕ)). starts_from f pid was ys) (sym (append-nil fed))
starts-append fed (x ∷ xs) ys pid was =
    starts-append (fed ++ x ∷ []) xs ys pid (starts_with fed x pid was)
    ∙ ap (λ (f : List (List ℕ)). starts_from f pid (starts_from (fed ++ x ∷ []) pid (starts_with fed x pid was) xs) ys) (append_assoc fed (x ∷ []) xs)

pub started-more : (fed : List (List ℕ)) (packet : List ℕ) (pid : ℕ) → is_started (fed ++ packet ∷ []) pid ≡ starts_with fed packet pid (is_started fed pid)
started-more fed packet pid = starts-append [] fed (packet ∷ []) pid false

-- a PID that is waited for is that of a component
holds-from : (fed packets : List (List ℕ)) (pid : ℕ) (was : Bool) → (was ≡ true → is_component fed pid ≡ true)
    → starts_from fed pid was packets ≡ true → is_component (fed ++ packets) pid ≡ true
holds-from fed [] pid was held is = ap (λ (f : List (List ℕ)). is_component f pid) (append-nil fed) ∙ held is
holds-from fed (packet ∷ packets) pid was held is =
    ap (λ (f : List (List ℕ)). is_component f pid) (sym (append_assoc fed (packet ∷ []) packets))
    ∙ holds-from (fed ++ packet ∷ []) packets pid (starts_with fed packet pid was)
    (λ now. (and_parts (is_component (fed ++ packet ∷ []) pid) (was || (pid_of packet == pid && has_stamp packet)) now).0) is

pub started-component : (fed : List (List ℕ)) (pid : ℕ) → is_started fed pid ≡ true → is_component fed pid ≡ true
started-component fed pid is = holds-from [] fed pid false (λ is. absurd (both_ways false refl is)) is

-- the same tables name the same components
pub component-same : (fed : List (List ℕ)) (packet : List ℕ) (pid : ℕ) → SameInForce fed packet → is_component (fed ++ packet ∷ []) pid ≡ is_component fed pid
component-same fed packet pid same = ap (λ (pids : List ℕ). has_number pids pid) (pids-same Component fed packet same)

-- ---- lists of PIDs

filter-both : (f g : ℕ → Bool) (xs : List ℕ) → filter g (filter f xs) ≡ filter (λ x. f x && g x) xs
filter-both f g [] = refl
filter-both f g (x ∷ xs) =
    elim (f x) as (λ b. filter g (if b then x ∷ filter f xs else filter f xs) ≡ (if b && g x then x ∷ filter (λ x. f x && g x) xs else filter (λ x. f x && g x) xs)) [
      | true ↦ ap (λ (ns : List ℕ). if g x then x ∷ ns else ns) (filter-both f g xs)
      | false ↦ filter-both f g xs
    ]

-- those of components that are waited for with a packet
pub started_are : (fed : List (List ℕ)) (packet : List ℕ) (started components now : List ℕ)
    → started ≡ filter (is_started fed) (numbers_below PID_NUMBERS)
    → components ≡ filter (is_component (fed ++ packet ∷ [])) (numbers_below PID_NUMBERS)
    → now ≡ filter (starts_in started packet) components
    → now ≡ filter (is_started (fed ++ packet ∷ [])) (numbers_below PID_NUMBERS)
started_are fed packet started components now were are is =
    is
    ∙ (ap (filter (starts_in started packet)) are
    ∙ (filter-both (is_component (fed ++ packet ∷ [])) (starts_in started packet) (numbers_below PID_NUMBERS)
    ∙ chosen_same (λ n. is_component (fed ++ packet ∷ []) n && starts_in started packet n) (is_started (fed ++ packet ∷ [])) PID_NUMBERS
    (λ n less.
    ap (λ (b : Bool). is_component (fed ++ packet ∷ []) n && (b || (pid_of packet == n && has_stamp packet)))
    (ap (λ (ns : List ℕ). has_number ns n) were ∙ chosen_member (is_started fed) PID_NUMBERS n less)
    ∙ sym (started-more fed packet n))))

-- ---- a packet with which none is waited for anew

module _ (fed : List (List ℕ)) (packet : List ℕ) (components started : List ℕ) (are : components ≡ filter (is_component fed) (numbers_below PID_NUMBERS))
    (were : started ≡ filter (is_started fed) (numbers_below PID_NUMBERS)) (same : SameInForce fed packet)
    (quiet : (has_stamp packet && (has_number components (pid_of packet) && not (has_number started (pid_of packet)))) ≡ false) where
  -- the PID of the packet among those that a test chooses
  chosen-here : (f : ℕ → Bool) (pids : List ℕ) (n : ℕ) → pids ≡ filter f (numbers_below PID_NUMBERS) → n < PID_NUMBERS → (pid_of packet == n) ≡ true
      → has_number pids (pid_of packet) ≡ f n
  chosen-here f pids n chosen less at =
      ap (has_number pids) (eqb-true (pid_of packet) n at) ∙ (ap (λ (ns : List ℕ). has_number ns n) chosen ∙ chosen_member f PID_NUMBERS n less)

  none-anew : (n : ℕ) → n < PID_NUMBERS → is_started fed n ≡ false
      → (is_component (fed ++ packet ∷ []) n && (pid_of packet == n && has_stamp packet)) ≡ false
  none-anew n less none = by_pid (pid_of packet == n) refl
    where
      here : (pid_of packet == n && has_stamp packet) ≡ false → (is_component (fed ++ packet ∷ []) n && (pid_of packet == n && has_stamp packet)) ≡ false
      here off = and_right (is_component (fed ++ packet ∷ []) n) (pid_of packet == n && has_stamp packet) off

      by_pid : (b : Bool) → (pid_of packet == n) ≡ b → (is_component (fed ++ packet ∷ []) n && (pid_of packet == n && has_stamp packet)) ≡ false
      by_pid false other = here (and_left (pid_of packet == n) (has_stamp packet) other)
      by_pid true at =
          elim (and_cases (has_stamp packet) (has_number components (pid_of packet) && not (has_number started (pid_of packet))) quiet) [
            | inl no_stamp ↦ here (and_right (pid_of packet == n) (has_stamp packet) no_stamp)
            | inr behind ↦ elim (and_cases (has_number components (pid_of packet)) (not (has_number started (pid_of packet))) behind) [
              | inl no_component ↦
                  and_left (is_component (fed ++ packet ∷ []) n) (pid_of packet == n && has_stamp packet)
                  (component-same fed packet n same ∙ (sym (chosen-here (is_component fed) components n are less at) ∙ no_component))
              | inr has ↦
                  absurd (both_ways (is_started fed n) none
                  (sym (chosen-here (is_started fed) started n were less at) ∙ not-false (has_number started (pid_of packet)) has))
            ]
          ]

  pub started-stay : (n : ℕ) → n < PID_NUMBERS → is_started (fed ++ packet ∷ []) n ≡ is_started fed n
  started-stay n less = started-more fed packet n ∙ by_was (is_started fed n) refl
    where
      by_was : (b : Bool) → is_started fed n ≡ b → starts_with fed packet n (is_started fed n) ≡ is_started fed n
      by_was true is =
          ap (λ (b : Bool). is_component (fed ++ packet ∷ []) n && (b || (pid_of packet == n && has_stamp packet))) is
          ∙ (ap (λ (b : Bool). b && true) (component-same fed packet n same ∙ started-component fed n is) ∙ sym is)
      by_was false none =
          ap (λ (b : Bool). is_component (fed ++ packet ∷ []) n && (b || (pid_of packet == n && has_stamp packet))) none
          ∙ (none-anew n less none ∙ sym none)

-- the same tables have the same components
pub components-stay : (fed : List (List ℕ)) (packet : List ℕ) (components : List ℕ) → SameInForce fed packet
    → components ≡ filter (is_component fed) (numbers_below PID_NUMBERS) → components ≡ filter (is_component (fed ++ packet ∷ [])) (numbers_below PID_NUMBERS)
components-stay fed packet components same are =
    are ∙ chosen_same (is_component fed) (is_component (fed ++ packet ∷ [])) PID_NUMBERS (λ n less. sym (component-same fed packet n same))

-- other rows of the same PIDs
pub kept-started : (old new : StampRow) (fed now : List (List ℕ)) → new.components.items ≡ old.components.items → new.started.items ≡ old.started.items → now ≡ fed
    → HasStarted old fed → HasStarted new now
kept-started old new fed now same_components same_started is has = record {
  components_are = same_components ∙ (has.components_are ∙ ap (λ (f : List (List ℕ)). filter (is_component f) (numbers_below PID_NUMBERS)) (sym is));
  started_are = same_started ∙ (has.started_are ∙ ap (λ (f : List (List ℕ)). filter (is_started f) (numbers_below PID_NUMBERS)) (sym is));
}

-- what is kept stays
pub stays-named : (pcr_pid : Option ℕ) (row : StampRow) (history : List Cell) (packet : List ℕ) (labels : ℕ) → HasStampRow pcr_pid row history
    → SameInForce (live_packets history) packet
    → (has_stamp packet && (has_number row.components.items (pid_of packet) && not (has_number row.started.items (pid_of packet)))) ≡ false
    → IsNamedWith pcr_pid row history packet labels
stays-named pcr_pid row history packet labels has same quiet = record {
  keys_named = names_stay (stamp_rule pcr_pid) row.keys history packet labels has.keys_are stay;
  started = record {
    components_are = components-stay (live_packets history) packet row.components.items same has.started.components_are;
    started_are = has.started.started_are
        ∙ chosen_same (is_started (live_packets history)) (is_started (live_packets history ++ packet ∷ [])) PID_NUMBERS (λ n less. sym (stay n less));
  };
}
  where
    stay : (n : ℕ) → n < PID_NUMBERS → is_started (live_packets history ++ packet ∷ []) n ≡ is_started (live_packets history) n
    stay = started-stay (live_packets history) packet row.components.items row.started.items has.started.components_are has.started.started_are same quiet

-- a packet that has no time stamp, and is not scrambled, leaves it as it is
pub quiet-stamps : (pcr_pid : Option ℕ) (row : StampRow) (history : List Cell) (packet : List ℕ) (labels : ℕ) → HasStampRow pcr_pid row history
    → is_look (span_on pcr_pid history packet) ≡ false → SameInForce (live_packets history) packet → (has_stamp packet || is_scrambled packet) ≡ false
    → ((rule : RowRule) (row : KeyRow) (history : List Cell) (packet : List ℕ) (labels : ℕ) → IsRow rule row history
    → is_look (span_on rule.pcr_pid history packet) ≡ false → SameNames rule history packet → AreOccurring rule history packet []
    → IsRow rule row (history ++ Live packet labels ∷ []))
    → HasStampRow pcr_pid row (history ++ Live packet labels ∷ [])
quiet-stamps pcr_pid row history packet labels has no_look same none leaves = record {
  keys_are = leaves (stamp_rule pcr_pid) row.keys history packet labels has.keys_are no_look
      (started-stay (live_packets history) packet row.components.items row.started.items has.started.components_are has.started.started_are same quiet)
      (λ n. no-key packet (has_stamp packet || is_scrambled packet) n none);
  started = kept-started row row (live_packets history ++ packet ∷ []) (live_packets (history ++ Live packet labels ∷ [])) refl refl
      (live-more history packet labels) (stays-named pcr_pid row history packet labels has same quiet).started;
}
  where
    quiet : (has_stamp packet && (has_number row.components.items (pid_of packet) && not (has_number row.started.items (pid_of packet)))) ≡ false
    quiet = and_left (has_stamp packet) (has_number row.components.items (pid_of packet) && not (has_number row.started.items (pid_of packet)))
        (or_parts (has_stamp packet) (is_scrambled packet) none).0
