-- A flow that meets packets.
use Rattle.std.proofs.Common.{◌≡◌, ℕ, Bool, false, ◌||◌, List, [], ◌∷◌, ◌++◌, length, drop, Option, refl, sym, ◌∙◌, ap, append_assoc, append-nil, subst}
use Rattle.std.specs.List.{filter_map, list_any, cons_option}
use Rattle.ts_demux.specs.DemuxState as demuxing
use Rattle.ts_demux.specs.DemuxState.{DemuxState, TakesIn}
use Rattle.ts_demux.specs.SectionsOfPid.{sections_of_pid}
use Rattle.ts_demux.proofs.TablesAfter.{no_sections}
use Rattle.section_flow.specs.Flow.{Edit, alters, is_altered, Waiting, nothing_waits, with_sections, given_for, completed_by, ready_with, given_after, waiting_from, waiting_after, replaced}
use Rattle.section_flow.specs.FlowState.{PackingState, Holds, Joins, Puts}
use Rattle.section_flow.specs.FlowStands.{HasMet, SameEdit}

none_waits : (pid : ℕ) (edit : Edit) → waiting_after pid edit [] ≡ nothing_waits
unfolding waiting_from
none_waits pid edit = refl

-- before the first packet
pub met-none :
    (demux : DemuxState) (packing : PackingState) (failed : Bool) (pid : ℕ) (edit : Edit) →
    failed ≡ false → packing ≡ record { pid = pid; rest = []; sections = []; counter = 0 } → demuxing.StandsFor demux pid [] [] →
    HasMet demux packing failed pid edit []
met-none demux packing failed pid edit works empty stands = record {
  working = works;
  same_pid = ap (λ p. p.pid) empty;
  demuxed = subst (demuxing.StandsFor demux pid []) (sym (no_sections pid)) stands;
  waits = subst (Holds packing) (sym (none_waits pid edit)) (record {
    rest = ap (λ p. p.rest) empty;
    sections = ap (λ p. p.sections) empty;
    counter = ap (λ p. p.counter) empty;
  });
}

-- one packet more at the end
pub waiting_from-more :
    (pid : ℕ) (edit : Edit) (met : List (List ℕ)) (waiting : Waiting) (packets : List (List ℕ)) (packet : List ℕ) →
    waiting_from pid edit met waiting (packets ++ packet ∷ []) ≡ (given_after pid edit (met ++ packets) (waiting_from pid edit met waiting packets) packet).waiting
unfolding waiting_from
waiting_from-more pid edit met waiting [] packet = ap (λ m. (given_after pid edit m waiting packet).waiting) (sym (append-nil met))
waiting_from-more pid edit met waiting (p ∷ packets) packet =
    let next = (given_after pid edit met waiting p).waiting in
    waiting_from-more pid edit (met ++ p ∷ []) next packets packet
    ∙ ap (λ m. (given_after pid edit m (waiting_from pid edit (met ++ p ∷ []) next packets) packet).waiting) (append_assoc met (p ∷ []) packets)

drop-front : (xs ys : List (List ℕ)) → drop (length xs) (xs ++ ys) ≡ ys
drop-front [] ys = refl
drop-front (x ∷ xs) ys = drop-front xs ys

same_ready : (now wanted : List ℕ → Option (List ℕ)) → SameEdit now wanted → (ss : List (List ℕ)) → filter_map now ss ≡ filter_map wanted ss
same_ready now wanted same [] = refl
same_ready now wanted same (s ∷ ss) = ap (λ o. cons_option o (filter_map now ss)) (same s) ∙ ap (λ t. cons_option (wanted s) t) (same_ready now wanted same ss)

same_altered : (now wanted : List ℕ → Option (List ℕ)) → SameEdit now wanted → (ss : List (List ℕ)) → list_any (alters now) ss ≡ list_any (alters wanted) ss
same_altered now wanted same [] = refl
same_altered now wanted same (s ∷ ss) =
    ap (λ o. is_altered s o || list_any (alters now) ss) (same s) ∙ ap (λ t. alters wanted s || t) (same_altered now wanted same ss)

pub replaced-is : (pid : ℕ) (edit : Edit) (met : List (List ℕ)) (packet : List ℕ) → replaced pid edit met packet ≡ (given_after pid edit met (waiting_after pid edit met) packet).packet
unfolding replaced
replaced-is pid edit met packet = refl

-- one more packet: what it completes, and what waits with that
module _
    (fed stepped : DemuxState) (before held after : PackingState) (failed : Bool) (now : List ℕ → Option (List ℕ)) (packet put : List ℕ) (count : ℕ)
    (takes : TakesIn stepped fed packet count) (joins : Joins before held (filter_map now fed.waiting)) (puts : Puts held after packet put)
    (pid : ℕ) (wanted : Edit) (met : List (List ℕ)) (has : HasMet stepped before failed pid wanted met) (same : SameEdit now (wanted (met ++ packet ∷ []))) where
  joined_waiting : Waiting
  joined_waiting = with_sections (waiting_after pid wanted met) (ready_with pid wanted met packet)

  completed : completed_by pid met packet ≡ fed.waiting
  completed = ap (drop (length (sections_of_pid pid met))) (takes.stands pid met (sections_of_pid pid met) has.demuxed).sections ∙ drop-front (sections_of_pid pid met) fed.waiting

  ready : filter_map now fed.waiting ≡ ready_with pid wanted met packet
  ready = same_ready now (wanted (met ++ packet ∷ [])) same fed.waiting ∙ ap (filter_map (wanted (met ++ packet ∷ []))) (sym completed)

  pub meets-altered : (altered : Bool) → altered ≡ list_any (alters now) fed.waiting →
      altered ≡ list_any (alters (wanted (met ++ packet ∷ []))) (completed_by pid met packet)
  meets-altered altered is =
      is ∙ same_altered now (wanted (met ++ packet ∷ [])) same fed.waiting ∙ ap (list_any (alters (wanted (met ++ packet ∷ [])))) (sym completed)

  holds : Holds held joined_waiting
  unfolding joined_waiting waiting_from
  holds = record {
    rest = joins.same_rest ∙ has.waits.rest;
    sections = joins.joined ∙ ap (λ t. t ++ filter_map now fed.waiting) has.waits.sections ∙ ap (λ t. (waiting_after pid wanted met).sections ++ t) ready;
    counter = joins.same_counter ∙ has.waits.counter;
  }

  on_pid : held.pid ≡ pid
  on_pid = joins.same_pid ∙ has.same_pid

  pub meets-replaced : put ≡ replaced pid wanted met packet
  unfolding given_for replaced joined_waiting
  meets-replaced =
      puts.placed joined_waiting holds
      ∙ ap (λ p. (given_for p joined_waiting packet).packet) on_pid
      ∙ sym (replaced-is pid wanted met packet)

  pub meets-stands : (last : DemuxState) →
      ((p : ℕ) (all given : List (List ℕ)) → demuxing.StandsFor fed p all given → demuxing.StandsFor last p all (sections_of_pid p all)) →
      HasMet last after failed pid wanted (met ++ packet ∷ [])
  unfolding given_for waiting_from joined_waiting
  meets-stands last took = record {
    working = has.working;
    same_pid = puts.same_pid ∙ on_pid;
    demuxed = took pid (met ++ packet ∷ []) (sections_of_pid pid met) (takes.stands pid met (sections_of_pid pid met) has.demuxed);
    waits = subst (Holds after)
        (ap (λ p. (given_for p joined_waiting packet).waiting) on_pid ∙ sym (waiting_from-more pid wanted [] nothing_waits met packet))
        (puts.held joined_waiting holds);
  }
