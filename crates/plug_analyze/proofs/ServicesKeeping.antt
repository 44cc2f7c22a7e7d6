-- The services in force at each position, one cell and one mark after another.
use Rattle.std.proofs.Common.{◌≡◌, ℕ, ◌+◌, ◌<◌, ◌≤◌, List, [], ◌∷◌, ◌++◌, length, take, map, ap, ap₂, sym, subst, ◌∙◌, inl, inr, refl, Bool, true, false, nat_lt, if◌then◌else◌, append-nil, Option, None, Some, get_or, arith, length-append}
use Rattle.std.specs.Prelude.{option_map}
use Rattle.std.specs.List.{All, cons_option, filter_map}
use Rattle.std.proofs.lemmas.Bool.{cases_lt}
use Rattle.std.proofs.lemmas.Grind.{flat_map-append}
use Rattle.std.proofs.lemmas.List.{map-append, take_all, take-append-le, take_more}
use Rattle.std.proofs.lemmas.List.Elements.{All-head, All-push, All-tail, All-weaker, filter_map-append}
use Rattle.ts_packet.specs.declared.cell.Cell.{Cell}
use Rattle.ts_packet.specs.Cells.{Live, Dropped, live_packets, packet_in}
use Rattle.ts_table_rows.specs.TableValues.{ItemHolding, TableHolding}
use Rattle.ts_psi.specs.PatTables.{network_items, pat_held, service_item}
use Rattle.ts_psi.specs.declared.pat.Pat.{Pat}
use Rattle.ts_psi.specs.declared.pat.PatService.{PatService}
use Rattle.plug_psi.specs.declared.in_force.InForce.{InForce}
use Rattle.plug_psi.specs.ForceStands as forcing
use Rattle.plug_psi.specs.InForce.{pat_of, pmt_of, service_in, services_in}
use Rattle.plug_psi.specs.SameForce.{SameInForce}
use Rattle.plugin_notes.proofs.Noting.{is_below, not_below}
use Rattle.plug_analyze.specs.declared.change.Change.{Change}
use Rattle.plug_analyze.specs.declared.service_count.ServiceCount.{ServiceCount}
use Rattle.plug_analyze.specs.declared.services.Services.{Services}
use Rattle.plug_analyze.specs.AnalyzeRule.{service_with, services_in_force}
use Rattle.plug_analyze.specs.AnalyzeState.{Serves}
use Rattle.plug_analyze.specs.ServicesKept.{DropsChanges, KeepsServices, changes_from, services_at, services_below}

-- the packets with one cell more
live-live : (history : List Cell) (packet : List ℕ) (labels : ℕ) → live_packets (history ++ Live packet labels ∷ []) ≡ live_packets history ++ packet ∷ []
live-live history packet labels = flat_map-append packet_in history (Live packet labels ∷ [])

live-dropped : (history : List Cell) → live_packets (history ++ Dropped ∷ []) ≡ live_packets history
live-dropped history = flat_map-append packet_in history (Dropped ∷ []) ∙ append-nil (live_packets history)

-- a change that is not below a position has no part in it
below_push : (k : ℕ) (services : List ServiceCount) (changes : List Change) (change : Change) → k ≤ change.at
    → services_below k services (changes ++ change ∷ []) ≡ services_below k services changes
below_push k services [] change le = ap (λ (b : Bool). if b then change.services.items else services) (not_below change.at k le)
below_push k services (c ∷ cs) change le =
    elim (nat_lt c.at k) as (λ b. (if b then services_below k c.services.items (cs ++ change ∷ []) else services) ≡ (if b then services_below k c.services.items cs else services)) [
      | true ↦ below_push k c.services.items cs change le
      | false ↦ refl
    ]

-- after all changes the last one decides
below_last : (k : ℕ) (services : List ServiceCount) (changes : List Change) (change : Change) → All (λ (c : Change). c.at < k) changes → change.at < k
    → services_below k services (changes ++ change ∷ []) ≡ change.services.items
below_last k services [] change early lt = ap (λ (b : Bool). if b then change.services.items else services) (is_below change.at k lt)
below_last k services (c ∷ cs) change early lt =
    ap (λ (b : Bool). if b then services_below k c.services.items (cs ++ change ∷ []) else services) (is_below c.at k (All-head (λ (c : Change). c.at < k) c cs early))
    ∙ below_last k c.services.items cs change (All-tail (λ (c : Change). c.at < k) c cs early) lt

-- after all changes nothing changes
below_all : (j k : ℕ) (services : List ServiceCount) (changes : List Change) → All (λ (c : Change). c.at < j) changes → j ≤ k
    → services_below k services changes ≡ services_below j services changes
below_all j k services [] early le = refl
below_all j k services (c ∷ cs) early le =
    let first : c.at < j = All-head (λ (c : Change). c.at < j) c cs early in
    ap (λ (b : Bool). if b then services_below k c.services.items cs else services) (is_below c.at k (omega arith))
    ∙ (below_all j k c.services.items cs (All-tail (λ (c : Change). c.at < j) c cs early) le
    ∙ sym (ap (λ (b : Bool). if b then services_below j c.services.items cs else services) (is_below c.at j first)))

-- the remaining changes have the same services at the later positions
below_left : (m k : ℕ) (services : List ServiceCount) (changes : List Change) → m ≤ k
    → services_below k (services_below m services changes) (changes_from m changes) ≡ services_below k services changes
below_left m k services [] le = refl
below_left m k services (c ∷ cs) le =
    let Same : Bool → Type 0 = λ b. services_below k (if b then services_below m c.services.items cs else services) (if b then changes_from m cs else c ∷ cs) ≡ services_below k services (c ∷ cs) in
    elim (cases_lt c.at m) [
      | inl lt ↦ subst Same (sym (is_below c.at m lt))
          (below_left m k c.services.items cs le
          ∙ sym (ap (λ (b : Bool). if b then services_below k c.services.items cs else services) (is_below c.at k (omega arith))))
      | inr ge ↦ subst Same (sym (not_below c.at m ge)) refl
    ]

-- those that are left were among them
left_all : (n m : ℕ) (changes : List Change) → All (λ (c : Change). c.at < n) changes → All (λ (c : Change). c.at < n) (changes_from m changes)
left_all n m [] early = early
left_all n m (c ∷ cs) early =
    elim (nat_lt c.at m) as (λ b. All (λ (c : Change). c.at < n) (if b then changes_from m cs else c ∷ cs)) [
      | true ↦ left_all n m cs (All-tail (λ (c : Change). c.at < n) c cs early)
      | false ↦ early
    ]

-- the services after a part of the history are those they were
at-same : (k : ℕ) (history : List Cell) (cell : Cell) → k ≤ length history → services_at k (history ++ cell ∷ []) ≡ services_at k history
at-same k history cell le = ap (λ (cells : List Cell). services_in_force (live_packets cells)) (take-append-le k history (cell ∷ []) le)

-- and those after all of it
at-end : (k : ℕ) (history : List Cell) → length history ≤ k → services_at k history ≡ services_in_force (live_packets history)
at-end k history le = ap (λ (cells : List Cell). services_in_force (live_packets cells)) (take_all k history le)

earlier : (history : List Cell) (cell : Cell) (changes : List Change) → All (λ (c : Change). c.at < length history) changes → All (λ (c : Change). c.at < length (history ++ cell ∷ [])) changes
earlier history cell changes early =
    All-weaker (λ (c : Change). c.at < length history) (λ (c : Change). c.at < length (history ++ cell ∷ []))
    (λ c lt. omega (arith, lt, length-append history (cell ∷ []))) changes early

module _ (services : List ServiceCount) (changes : List Change) (history : List Cell) (mark : ℕ) (w : KeepsServices services changes history mark) where
  -- a cell with which the same services are in force
  pub kept_same : (cell : Cell) → services_in_force (live_packets (history ++ cell ∷ [])) ≡ services_in_force (live_packets history)
      → KeepsServices services changes (history ++ cell ∷ []) mark
  kept_same cell same = record {
    marked = omega (arith, w.marked, length-append history (cell ∷ []));
    now = w.now ∙ sym (at-same mark history cell w.marked);
    early = earlier history cell changes w.early;
    each = λ k ge le. elim (cases_lt (length history) k) [
      | inl more ↦
          below_all (length history) k services changes w.early (omega arith)
          ∙ (w.each (length history) w.marked (omega arith)
          ∙ (at-end (length history) history (omega arith)
          ∙ (sym same ∙ sym (at-end k (history ++ cell ∷ []) (omega (arith, length-append history (cell ∷ [])))))))
      | inr within ↦ w.each k ge within ∙ sym (at-same k history cell within)
    ];
  }

  -- a cell with which others came into force
  pub kept_change : (cell : Cell) (change : Change) → change.at ≡ length history → change.services.items ≡ services_in_force (live_packets (history ++ cell ∷ []))
      → KeepsServices services (changes ++ change ∷ []) (history ++ cell ∷ []) mark
  kept_change cell change at_is services_are = record {
    marked = omega (arith, w.marked, length-append history (cell ∷ []));
    now = w.now ∙ sym (at-same mark history cell w.marked);
    early = All-push (λ (c : Change). c.at < length (history ++ cell ∷ [])) changes change (earlier history cell changes w.early) (omega (arith, at_is, length-append history (cell ∷ [])));
    each = λ k ge le. elim (cases_lt (length history) k) [
      | inl more ↦
          below_last k services changes change
          (All-weaker (λ (c : Change). c.at < length history) (λ (c : Change). c.at < k) (λ c lt. omega (arith, lt, more)) changes w.early)
          (omega (arith, at_is, more))
          ∙ (services_are ∙ sym (at-end k (history ++ cell ∷ []) (omega (arith, length-append history (cell ∷ [])))))
      | inr within ↦
          below_push k services changes change (omega (arith, at_is, within))
          ∙ (w.each k ge within ∙ sym (at-same k history cell within))
    ];
  }

  -- changes below a later position are taken off
  pub kept_folded : (to : ℕ) (services_new : List ServiceCount) (changes_new : List Change) → mark ≤ to → to ≤ length history
      → DropsChanges to services services_new changes changes_new → KeepsServices services_new changes_new history to
  kept_folded to services_new changes_new later within drops = record {
    marked = within;
    now = drops.services_are ∙ w.each to later within;
    early = subst (All (λ (c : Change). c.at < length history)) (sym drops.changes_are) (left_all (length history) to changes w.early);
    each = λ k ge le.
        ap₂ (services_below k) drops.services_are drops.changes_are
        ∙ (below_left to k services changes ge ∙ w.each k (omega (arith, later, ge)) le);
  }

-- entries with the same PMTs
services-same : (f g : ℕ → Option TableHolding) → ((service : ℕ) → f service ≡ g service) → (entries : List (ℕ × ℕ)) → map (service_with f) entries ≡ map (service_with g) entries
services-same f g same [] = refl
services-same f g same (entry ∷ entries) =
    ap₂ (λ (s : ServiceCount) (ss : List ServiceCount). s ∷ ss) (one (f entry.0) (g entry.0) (same entry.0)) (services-same f g same entries)
  where
    one : (x y : Option TableHolding) → x ≡ y → service_with (λ _. x) entry ≡ service_with (λ _. y) entry
    one x y e = ap (λ (z : Option TableHolding). service_with (λ _. z) entry) e

-- where the same tables are in force, so are the same services
same_services : (fed : List (List ℕ)) (packet : List ℕ) → SameInForce fed packet → services_in_force (fed ++ packet ∷ []) ≡ services_in_force fed
same_services fed packet same =
    services-same (λ service. pmt_of service (fed ++ packet ∷ [])) (λ service. pmt_of service fed) same.pmts (services_in (pat_of (fed ++ packet ∷ [])))
    ∙ ap (λ (pat : Option TableHolding). map (service_with (λ service. pmt_of service fed)) (services_in pat)) same.pat

-- a dropped cell
pub serves_dropped : (services : Services) (history : List Cell) (mark : ℕ) → Serves services history mark → Serves services (history ++ Dropped ∷ []) mark
serves_dropped services history mark w = record {
  fed = subst (forcing.StandsFor services.force) (sym (live-dropped history)) w.fed;
  kept = kept_same services.services.items services.changes.items history mark w.kept Dropped (ap services_in_force (live-dropped history));
}

-- before a cell was met
pub serves_new : (services : Services) → forcing.StandsFor services.force [] → services.services.items ≡ services_in_force [] → services.changes.items ≡ [] → Serves services [] 0
serves_new services fed services_are none = record {
  fed = fed;
  kept = subst (λ (cs : List Change). KeepsServices services.services.items cs [] 0) (sym none) (record {
    marked = omega arith;
    now = services_are ∙ sym (at-end 0 [] (omega arith));
    early = λ k d lt. absurd (omega (arith, lt));
    each = λ k ge le. services_are ∙ sym (at-end k [] ge);
  });
}

module _ (services services_new : Services) (history : List Cell) (mark : ℕ) (w : Serves services history mark) (packet : List ℕ) (labels : ℕ)
    (fed : forcing.StandsFor services_new.force (live_packets history ++ packet ∷ [])) (services_are : services_new.services.items ≡ services.services.items) where
  fed_with : forcing.StandsFor services_new.force (live_packets (history ++ Live packet labels ∷ []))
  fed_with = subst (forcing.StandsFor services_new.force) (sym (live-live history packet labels)) fed

  -- a packet with which no table came into force
  pub serves_same : SameInForce (live_packets history) packet → services_new.changes.items ≡ services.changes.items → Serves services_new (history ++ Live packet labels ∷ []) mark
  serves_same same changes_are = record {
    fed = fed_with;
    kept = subst (λ (ss : List ServiceCount). KeepsServices ss services_new.changes.items (history ++ Live packet labels ∷ []) mark) (sym services_are)
        (subst (λ (cs : List Change). KeepsServices services.services.items cs (history ++ Live packet labels ∷ []) mark) (sym changes_are)
        (kept_same services.services.items services.changes.items history mark w.kept (Live packet labels)
        (ap services_in_force (live-live history packet labels) ∙ same_services (live_packets history) packet same)));
  }

  -- one with which some did
  pub serves_change : (change : Change) → change.at ≡ length history → change.services.items ≡ services_in_force (live_packets history ++ packet ∷ [])
      → services_new.changes.items ≡ services.changes.items ++ change ∷ [] → Serves services_new (history ++ Live packet labels ∷ []) mark
  serves_change change at_is are changes_are = record {
    fed = fed_with;
    kept = subst (λ (ss : List ServiceCount). KeepsServices ss services_new.changes.items (history ++ Live packet labels ∷ []) mark) (sym services_are)
        (subst (λ (cs : List Change). KeepsServices services.services.items cs (history ++ Live packet labels ∷ []) mark) (sym changes_are)
        (kept_change services.services.items services.changes.items history mark w.kept (Live packet labels) change at_is
        (are ∙ ap services_in_force (sym (live-live history packet labels)))));
  }

-- changes below a later position are taken off
pub serves_folded : (services services_new : Services) (history : List Cell) (mark to : ℕ) → Serves services history mark → mark ≤ to → to ≤ length history
    → DropsChanges to services.services.items services_new.services.items services.changes.items services_new.changes.items
    → services_new.force ≡ services.force → Serves services_new history to
serves_folded services services_new history mark to w later within drops same = record {
  fed = subst (λ (force : InForce). forcing.StandsFor force (live_packets history)) (sym same) w.fed;
  kept = kept_folded services.services.items services.changes.items history mark w.kept to services_new.services.items services_new.changes.items later within drops;
}

-- the services of a PAT: those of its entries that are no network's
pub pat_services : (pat : Pat) → services_in (Some (pat_held pat)) ≡ filter_map service_in (map service_item pat.services)
pat_services pat = elim pat.network_pid as (λ n. filter_map service_in (network_items n ++ map service_item pat.services) ≡ filter_map service_in (map service_item pat.services)) [
  | None ↦ refl
  | Some pid ↦ refl
]

-- the services in force, where a PAT is
pub services_are : (fed : List (List ℕ)) (pat : Pat) (services : List ServiceCount) → Some (pat_held pat) ≡ pat_of fed
    → services ≡ map (service_with (λ id. pmt_of id fed)) (filter_map service_in (map service_item pat.services)) → services ≡ services_in_force fed
services_are fed pat services pat_is is =
    is
    ∙ (ap (map (service_with (λ id. pmt_of id fed))) (sym (pat_services pat))
    ∙ ap (λ (p : Option TableHolding). map (service_with (λ id. pmt_of id fed)) (services_in p)) pat_is)

same_service : (a b : ServiceCount) → Some a ≡ Some b → a ≡ b
same_service a b e = cc

-- the services with one entry more
pub service_more : (pmts : ℕ → Option TableHolding) (entries : List PatService) (i : ℕ) (entry : PatService) (services services_new : List ServiceCount) (count : ServiceCount)
    → i < length entries → entry ≡ get_or entries i entry
    → Some count ≡ option_map (service_with pmts) (service_in (service_item entry))
    → services ≡ map (service_with pmts) (filter_map service_in (map service_item (take i entries)))
    → services_new ≡ services ++ count ∷ []
    → services_new ≡ map (service_with pmts) (filter_map service_in (map service_item (take (i + 1) entries)))
service_more pmts entries i entry services services_new count lt entry_is count_is so_far pushed =
    let f : ItemHolding → Option (ℕ × ℕ) = service_in in
    pushed
    ∙ (ap (λ (ss : List ServiceCount). ss ++ count ∷ []) so_far
    ∙ (last (service_in (service_item entry)) count_is
    ∙ (sym (map-append (service_with pmts) (filter_map f (map service_item (take i entries))) (filter_map f (map service_item (entry ∷ []))))
    ∙ ap (map (service_with pmts))
    (sym (filter_map-append f (map service_item (take i entries)) (map service_item (entry ∷ [])))
    ∙ ap (filter_map f) (sym (map-append service_item (take i entries) (entry ∷ []))
    ∙ ap (map service_item) (ap (λ (e : PatService). take i entries ++ e ∷ []) entry_is ∙ sym (take_more entries i entry lt)))))))
  where
    last : (x : Option (ℕ × ℕ)) → Some count ≡ option_map (service_with pmts) x
        → map (service_with pmts) (filter_map service_in (map service_item (take i entries))) ++ count ∷ []
        ≡ map (service_with pmts) (filter_map service_in (map service_item (take i entries))) ++ map (service_with pmts) (cons_option x [])
    last None e = cc
    last (Some s) e = ap (λ (c : ServiceCount). map (service_with pmts) (filter_map service_in (map service_item (take i entries))) ++ c ∷ []) (same_service count (service_with pmts s) e)
