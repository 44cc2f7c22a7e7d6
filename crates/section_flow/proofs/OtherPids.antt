-- A flow, where a packet of another PID comes.
use Rattle.std.proofs.Common.{◌≡◌, ℕ, ◌==◌, ◌&&◌, false, List, [], ◌∷◌, ◌++◌, drop, length, refl, sym, ◌∙◌, ap, append-nil, subst}
use Rattle.std.specs.Prelude.{is_some, not, if◌then◌else◌}
use Rattle.std.specs.List.{filter_map}
use Rattle.ts_packet.specs.Header.{error_indicator_of, pid_of, scrambling_of}
use Rattle.ts_packet.specs.Payload.{payload_start_of}
use Rattle.ts_demux.specs.CountedPackets.{counts}
use Rattle.ts_demux.specs.DemuxState as demuxing
use Rattle.ts_demux.specs.DemuxState.{DemuxState, TakesIn}
use Rattle.ts_demux.specs.SectionsOfPid.{sections_of_pid}
use Rattle.section_flow.specs.Flow.{Edit, Given, Waiting, completed_by, given_for, next_given, nothing_waits, passed, ready_with, waiting_after, with_sections}
use Rattle.section_flow.specs.FlowState.{Holds}
use Rattle.section_flow.specs.FlowStands as flowing
use Rattle.section_flow.specs.declared.flow.Flow.{Flow}
use Rattle.section_flow.proofs.FlowLemmas.{waiting_from-more}

-- nothing is left behind all
pub drop-all : (xs : List (List ℕ)) → drop (length xs) xs ≡ []
drop-all [] = refl
drop-all (x ∷ xs) = drop-all xs

-- sections that join none
pub none-join : (waiting : Waiting) → with_sections waiting [] ≡ waiting
none-join waiting = λ i. record { rest = waiting.rest; sections = append-nil waiting.sections i; number = waiting.number }

module _ (flow : Flow) (pid : ℕ) (edit : Edit) (met : List (List ℕ)) (p : List ℕ) (h : flowing.StandsFor flow pid edit met) (other : (pid_of p == pid) ≡ false) where
  uncounted : counts flow.demux.pid p ≡ false
  uncounted =
      ap (λ n. (pid_of p == n) && ((scrambling_of p == 0) && (not (error_indicator_of p) && is_some (payload_start_of p)))) h.demuxed.same_pid
      ∙ ap (λ b. b && ((scrambling_of p == 0) && (not (error_indicator_of p) && is_some (payload_start_of p)))) other

  module _ (law : (demux : DemuxState) (packet : List ℕ) → counts demux.pid packet ≡ false → TakesIn demux demux packet 0) where
    taken : demuxing.StandsFor flow.demux pid (met ++ p ∷ []) (sections_of_pid pid met)
    taken = (law flow.demux p uncounted).stands pid met (sections_of_pid pid met) h.demuxed

    same_sections : sections_of_pid pid (met ++ p ∷ []) ≡ sections_of_pid pid met
    same_sections = taken.sections ∙ sym h.demuxed.sections

    none_completed : completed_by pid met p ≡ []
    none_completed = ap (drop (length (sections_of_pid pid met))) same_sections ∙ drop-all (sections_of_pid pid met)

    same_waiting : waiting_after pid edit (met ++ p ∷ []) ≡ waiting_after pid edit met
    unfolding given_for
    same_waiting =
        waiting_from-more pid edit [] nothing_waits met p
        ∙ ap (λ b. (if b then (if scrambling_of p == 0 then next_given pid (with_sections (waiting_after pid edit met) (ready_with pid edit met p))
        else passed pid (with_sections (waiting_after pid edit met) (ready_with pid edit met p)) p)
        else (let given : Given = record { packet = p; waiting = with_sections (waiting_after pid edit met) (ready_with pid edit met p) } in given)).waiting) other
        ∙ ap (λ ss. with_sections (waiting_after pid edit met) (filter_map (edit (met ++ p ∷ [])) ss)) none_completed
        ∙ none-join (waiting_after pid edit met)

    -- a packet of another PID changes nothing
    pub flow-elsewhere : flowing.StandsFor flow pid edit (met ++ p ∷ [])
    flow-elsewhere = record {
      working = h.working;
      same_pid = h.same_pid;
      demuxed = subst (demuxing.StandsFor flow.demux pid (met ++ p ∷ [])) (sym same_sections) taken;
      waits = subst (Holds flow.packing) (sym same_waiting) h.waits;
    }
