-- Lemmas on the counts of EIT sections, section by section and packet by packet.
use Rattle.std.proofs.Common.{◌≡◌, ℕ, ◌+◌, ◌==◌, ◌&&◌, Bool, true, false, List, [], ◌∷◌, ◌++◌, None, Some, refl, sym, subst, ◌∙◌, ap, append-nil, arith, if◌then◌else◌}
use Rattle.std.specs.Prelude.{cond, count_by, is_some, min, not}
use Rattle.std.proofs.lemmas.Bool.{eqb-true}
use Rattle.std.proofs.lemmas.List.Sums.{sum_by_push}
use Rattle.ts_packet.specs.Header.{error_indicator_of, pid_of, scrambling_of}
use Rattle.ts_packet.specs.Payload.{payload_start_of}
use Rattle.ts_section.specs.SectionFields.{extension_of, head_fields, head_of, is_long, table_id_of}
use Rattle.ts_section.specs.declared.long_head.LongHead.{LongHead}
use Rattle.ts_demux.specs.CountedPackets as counting
use Rattle.ts_demux.specs.DemuxState as demuxing
use Rattle.ts_demux.specs.DemuxState.{DemuxState, GivesFirst, TakesIn}
use Rattle.ts_demux.specs.SectionsOfParts.{sections_of_parts}
use Rattle.ts_demux.specs.SectionsOfPid.{sections_of_pid}
use Rattle.plug_info_state.specs.EitSections.{is_of, is_present, is_schedule, up_to_end}
use Rattle.plug_info_state.specs.EitStands.{AreCountsOf, Counts, CountsSome, count_of, counted}
use Rattle.plug_info_state.specs.declared.number_counts.NumberCounts.{NumberCounts}

-- the count of one number after another was counted
pub counted-is : (id other next : ℕ) (old : ℕ → ℕ) → next ≡ min (old id + 1) 18446744073709551615
    → (if id == other then next else old other) ≡ counted (id == other) (old other)
counted-is id other next old is = by-case (id == other) refl
  where
    by-case : (b : Bool) → (id == other) ≡ b → (if b then next else old other) ≡ counted b (old other)
    by-case true same = is ∙ ap (λ n. min (old n + 1) 18446744073709551615) (eqb-true id other same)
    by-case false same = refl

-- a section with a head is of a kind and a service by its head, and one without a head is not
head-parts : (b : Bool) (fields head : LongHead) → Some head ≡ (if b then Some fields else None) → (b ≡ true) × (head ≡ fields)
head-parts true fields head is = (refl, cc)
head-parts false fields head is = cc

pub of-head : (kind : ℕ → Bool) (section : List ℕ) (head : LongHead) (id : ℕ) → Some head ≡ head_of section
    → (kind head.table_id && (head.extension == id)) ≡ is_of kind id section
of-head kind section head id is =
    let parts = head-parts (is_long section) (head_fields section) head is in
    ap (λ (h : LongHead). kind h.table_id && (h.extension == id)) parts.1
    ∙ ap (λ (b : Bool). b && (kind (table_id_of section) && (extension_of section == id))) (sym parts.0)

pub of-none : (kind : ℕ → Bool) (section : List ℕ) (id : ℕ) → None ≡ head_of section → is_of kind id section ≡ false
of-none kind section id is = short (is_long section) (head_fields section) (kind (table_id_of section) && (extension_of section == id)) is
  where
    short : (b : Bool) (fields : LongHead) (rest : Bool) → None ≡ (if b then Some fields else None) → (b && rest) ≡ false
    short true fields rest is = cc
    short false fields rest is = refl

-- a count with one more section
one-more : (b : Bool) (n : ℕ) → counted b (up_to_end n) ≡ up_to_end (n + cond b 1 0)
one-more true n = omega arith
one-more false n = omega arith

counts-more : (kind : ℕ → Bool) (old new : NumberCounts) (given : List (List ℕ)) (section : List ℕ) → AreCountsOf kind old given
    → ((id : ℕ) → count_of new id ≡ counted (is_of kind id section) (count_of old id)) → AreCountsOf kind new (given ++ section ∷ [])
counts-more kind old new given section are more = λ id.
    more id
    ∙ (ap (counted (is_of kind id section)) (are id)
    ∙ (one-more (is_of kind id section) (count_by (is_of kind id) given)
    ∙ ap up_to_end (sym (sum_by_push (λ (s : List ℕ). cond (is_of kind id s) 1 0) given section))))

-- the first section that waits is counted
pub first-counted : (demux demux_new : DemuxState) (present present_new schedule schedule_new : NumberCounts) (fed : List (List ℕ)) (section : List ℕ)
    → GivesFirst demux demux_new section
    → ((id : ℕ) → count_of present_new id ≡ counted (is_of is_present id section) (count_of present id))
    → ((id : ℕ) → count_of schedule_new id ≡ counted (is_of is_schedule id section) (count_of schedule id))
    → CountsSome demux present schedule fed → CountsSome demux_new present_new schedule_new fed
first-counted demux demux_new present present_new schedule schedule_new fed section first more more_too w = record {
  given = w.given ++ section ∷ [];
  counts = record {
    demuxed = first.stands 18 fed w.given w.counts.demuxed;
    present_are = counts-more is_present present present_new w.given section w.counts.present_are more;
    schedule_are = counts-more is_schedule schedule schedule_new w.given section w.counts.schedule_are more_too;
  };
}

-- no section waits any more
pub all-counted : (demux demux_new : DemuxState) (present schedule : NumberCounts) (fed : List (List ℕ)) → demux.waiting ≡ [] → demux_new ≡ demux
    → CountsSome demux present schedule fed → Counts demux_new present schedule fed (sections_of_pid 18 fed)
all-counted demux demux_new present schedule fed none same w =
    subst (λ d. Counts d present schedule fed (sections_of_pid 18 fed)) (sym same)
    (subst (Counts demux present schedule fed)
    (sym (w.counts.demuxed.sections ∙ (ap (λ (waiting : List (List ℕ)). w.given ++ waiting) none ∙ append-nil w.given))) w.counts)

-- no packet was fed
pub counts-new : (demux : DemuxState) (present schedule : NumberCounts) → demuxing.StandsFor demux 18 [] []
    → ((id : ℕ) → count_of present id ≡ 0) → ((id : ℕ) → count_of schedule id ≡ 0) → Counts demux present schedule [] (sections_of_pid 18 [])
unfolding sections_of_parts
counts-new demux present schedule stands none none_too = record {
  demuxed = stands;
  present_are = λ id. none id;
  schedule_are = λ id. none_too id;
}

-- the demultiplexer was fed a packet
pub counts-fed : (demux demux_new : DemuxState) (present schedule : NumberCounts) (fed given : List (List ℕ)) (packet : List ℕ) (completed : ℕ)
    → TakesIn demux demux_new packet completed → Counts demux present schedule fed given → Counts demux_new present schedule (fed ++ packet ∷ []) given
counts-fed demux demux_new present schedule fed given packet completed takes w = record {
  demuxed = takes.stands 18 fed given w.demuxed;
  present_are = w.present_are;
  schedule_are = w.schedule_are;
}

-- a packet on another PID does not count
apart : (pid : ℕ) (packet : List ℕ) → pid ≡ 18 → (pid_of packet == 18) ≡ false → counting.counts pid packet ≡ false
apart pid packet is other =
    ap (λ (n : ℕ). counting.counts n packet) is
    ∙ ap (λ b. b && ((scrambling_of packet == 0) && (not (error_indicator_of packet) && is_some (payload_start_of packet)))) other

pub counts-other : (demux : DemuxState) (present schedule : NumberCounts) (fed : List (List ℕ)) (packet : List ℕ) → (pid_of packet == 18) ≡ false
    → ((demux : DemuxState) (packet : List ℕ) → counting.counts demux.pid packet ≡ false → TakesIn demux demux packet 0)
    → Counts demux present schedule fed (sections_of_pid 18 fed) → Counts demux present schedule (fed ++ packet ∷ []) (sections_of_pid 18 (fed ++ packet ∷ []))
counts-other demux present schedule fed packet other law w =
    let more = counts-fed demux demux present schedule fed (sections_of_pid 18 fed) packet 0 (law demux packet (apart demux.pid packet w.demuxed.same_pid other)) w in
    subst (Counts demux present schedule (fed ++ packet ∷ [])) (w.demuxed.sections ∙ sym more.demuxed.sections) more
