-- What is left out of the input of a run, whether it is reported at the end or while the run goes.
use Rattle.std.proofs.Common.{◌≡◌, inl, inr, ℕ, List, Bool, true, false, ◌||◌, ◌++◌, Option, ap, sym, ◌∙◌, subst}
use Rattle.ts_outside.specs.Desk.{DeskView}
use Rattle.ts_outside.specs.Saying.{Says}
use Rattle.chain_args.specs.declared.general_conf.GeneralConf.{GeneralConf}
use Rattle.chain_core.specs.declared.closed.Closed.{Closed}
use Rattle.chain_model.specs.PureRun.{Chain}
use Rattle.chain_model.specs.Stuffed.{Stuffing}
use Rattle.packet_forms.specs.declared.forms.Form.{Form}
use Rattle.search_source.specs.declared.file_source.KeptGaps.{KeptGaps}
use Rattle.search_source.specs.declared.gap.Gap.{Gap}
use Rattle.tsp_top.specs.CallOutcome.{run_status}
use Rattle.tsp_top.specs.InputRounds.{ExtendsTold, IsLeftOut, Knows, KnowsEnd}
use Rattle.tsp_top.specs.LeftOut.{KnowsAll, LeftOut, input_faulty, kept_out}
use Rattle.tsp_top.specs.PlannedChain.{stuffing_of}
use Rattle.tsp_top.specs.Printed.{reported_as, reports_asked, told_lines}
use Rattle.tsp_top.specs.Reported.{ReportsAsked, StandsUnreported}
use Rattle.tsp_top.specs.declared.status.Status.{Status}
use Rattle.tsp_top.proofs.EndLemmas.{plain-report}
use Rattle.tsp_top.proofs.GapLemmas.{SameSaid}

-- a run is reported of which this is left out
abbrev pub AskedBy : GeneralConf → Stuffing → Closed → Chain → Bool → Bool → DeskView → DeskView → Status → Type 0 → Option LeftOut → Type 0
AskedBy general stuffing closed chain faults closing old new status K left_out =
    ReportsAsked general (reported_as general left_out chain closed.cut closed.cause) (told_lines general left_out chain closed.cut)
    (input_faulty stuffing left_out closed.cut closed.cause || faults) K closed.cause closing old new status

module _ (general : GeneralConf) (stuffing : Stuffing) (form : Form) (gaps : List Gap) (at : ℕ) (kept : Option KeptGaps) (closed : Closed) (chain : Chain) (faults closing : Bool) (old new : DeskView) (status : Status) where
  abbrev pub Asked : Type 0 → Option LeftOut → Type 0
  Asked = AskedBy general stuffing closed chain faults closing old new status

  -- at the end: what was kept
  pub plain-out : general.live ≡ false → Asked (KnowsAll stuffing kept closed.cut closed.cause) (kept_out kept)
      → (left_out : Option LeftOut) → IsLeftOut general.live stuffing form gaps at kept closed.cause left_out → Asked (Knows general.live stuffing kept closed.cut closed.cause) left_out
  plain-out plain asked left_out is =
      let own : left_out ≡ kept_out kept = subst (λ (b : Bool). IsLeftOut b stuffing form gaps at kept closed.cause left_out) plain is in
      subst (λ (b : Bool). Asked (Knows b stuffing kept closed.cut closed.cause) left_out) (sym plain)
      (subst (λ (o : Option LeftOut). Asked (KnowsAll stuffing kept closed.cut closed.cause) o) (sym own) asked)

  -- while it goes: what goes on from what was told
  pub live-out : general.live ≡ true → ((left_out : Option LeftOut) → ExtendsTold stuffing form gaps at kept closed.cause left_out → Asked (KnowsEnd kept closed.cause) left_out)
      → (left_out : Option LeftOut) → IsLeftOut general.live stuffing form gaps at kept closed.cause left_out → Asked (Knows general.live stuffing kept closed.cut closed.cause) left_out
  live-out live asked left_out is =
      subst (λ (b : Bool). Asked (Knows b stuffing kept closed.cut closed.cause) left_out) (sym live)
      (asked left_out (subst (λ (b : Bool). IsLeftOut b stuffing form gaps at kept closed.cause left_out) live is))

-- a run that is reported at its end, by what was kept: the same is reported by all that is left out of a file
pub plain-asked : (general : GeneralConf) (kept : Option KeptGaps) (left_out : Option LeftOut) (chain : Chain) (closed : Closed) (faults closing : Bool) (old new : DeskView) (status : Status)
    → general.live ≡ false → SameSaid (stuffing_of general) kept left_out
    → AskedBy general (stuffing_of general) closed chain faults closing old new status (Knows general.live (stuffing_of general) kept closed.cut closed.cause) (kept_out kept)
    → AskedBy general (stuffing_of general) closed chain faults closing old new status (Knows general.live (stuffing_of general) kept closed.cut closed.cause) left_out
plain-asked general kept left_out chain closed faults closing old new status plain same (inl said) =
    let known : KnowsAll (stuffing_of general) kept closed.cut closed.cause = subst (λ (b : Bool). Knows b (stuffing_of general) kept closed.cut closed.cause) plain said.3 in
    let both = same general.bare closed.cut closed.cause known in
    let rest : List ℕ = reports_asked general chain.plugins chain.input closed.cut closed.cause in
    let text : reported_as general (kept_out kept) chain closed.cut closed.cause ≡ reported_as general left_out chain closed.cut closed.cause =
    plain-report general (kept_out kept) chain closed.cut closed.cause plain
    ∙ ap (λ (t : List ℕ). t ++ rest) both.0
    ∙ sym (plain-report general left_out chain closed.cut closed.cause plain) in
    inl (
      said.0,
      subst (λ (t : List ℕ). Says old new t said.0) text said.1,
      said.2 ∙ ap (λ (b : Bool). run_status general (b || faults) closed.cause (closing || said.0)) both.1,
      said.3,
    )
plain-asked general kept left_out chain closed faults closing old new status plain same (inr none) =
    let U : Bool → Type 0 = λ b. StandsUnreported b general.bare (told_lines general left_out chain closed.cut) old new in
    let unreported : new ≡ old = subst (λ (b : Bool). StandsUnreported b general.bare (told_lines general (kept_out kept) chain closed.cut) old new) plain none.1 in
    inr (none.0, subst U (sym plain) unreported)
