-- Worked rows, computed on the definitions.
use Rattle.std.proofs.Common.{◌≡◌, ◌++◌, ◌∷◌, [], ℕ, List, filter, Bool, true, false, Some, None, codes, refl}
use Rattle.std.specs.Fmt.{digits}
use Rattle.chain_model.specs.Apply.{StageList}
use Rattle.chain_model.specs.Reports.{NamedRule, reports}
use Rattle.chain_model.specs.declared.input_end.InputEnd.TheVariants as input
use Rattle.chain_model.specs.declared.cause.Cause.{Cause}
use Rattle.chain_model.specs.declared.cause.Cause.TheVariants as cause
use Rattle.packet_forms.specs.declared.forms.Form.TheVariants.{Ts}
use Rattle.chain_args.specs.declared.general_conf.GeneralConf.{GeneralConf}
use Rattle.chain_args.specs.declared.stage_threads.StageThreads.TheVariants.{Auto}
use Rattle.tsp_top.specs.CallOutcome.{run_status, status_of}
use Rattle.chain_model.specs.PureRun.{Chain, reported_at}
use Rattle.chain_live.specs.LiveReports.{LiveLine, is_before, live_reported}
use Rattle.chain_rounds.specs.Merged.{merged}
use Rattle.chain_rounds.specs.Round.{place}
use Rattle.tsp_top.specs.Printed.{gap_printed, input_lines, live_text, printed_line, reported_as, reports_asked}
use Rattle.tsp_top.specs.Sizes.{lesser_batch}
use Rattle.tsp_top.specs.declared.status.Status.TheVariants.{Done, WriteFault, Sync, InputEnded, FaultFound}

-- both are given; one of them is; neither is
both-given : lesser_batch (Some 20) (Some 7) ≡ Some 7
both-given = refl

great-one-given : lesser_batch (Some 20000) None ≡ Some 10000
great-one-given = refl

small-one-given : lesser_batch None (Some 1) ≡ Some 1
small-one-given = refl

none-given : lesser_batch None None ≡ None
none-given = refl

-- the general options, of which these three are given or not
abbrev asked : Bool → Bool → Bool → GeneralConf
asked bare endless fail_on_faults = record {
  add_start_stuffing = 0;
  add_stop_stuffing = 0;
  add_input_stuffing = (0, 1);
  buffer_packets = None;
  max_flushed_packets = None;
  max_input_packets = None;
  ignore_joint_termination = false;
  bare = bare;
  endless = endless;
  fail_on_faults = fail_on_faults;
  live = false;
  threads = Auto;
}

-- `--endless`: the input ended, with bytes left out; until ended the run; sync was lost; the report failed
input-ended : run_status (asked false true false) false (cause.Input (input.End 17)) false ≡ InputEnded
input-ended = refl

until-ended : run_status (asked false true false) false (cause.Until 2) false ≡ Done
until-ended = refl

lost-sync : run_status (asked false true true) true (cause.Input (input.Sync 2)) false ≡ Sync 2
lost-sync = refl

unreported-end : run_status (asked false true true) true (cause.Input (input.End 0)) true ≡ WriteFault
unreported-end = refl

-- `--fail-on-faults`: a plugin has a fault, and none has; with `--endless` too, the input's end is told
fault-found : run_status (asked false false true) true (cause.Until 2) false ≡ FaultFound
fault-found = refl

no-fault-found : run_status (asked false false true) false (cause.Until 2) false ≡ Done
no-fault-found = refl

both-asked : run_status (asked false true true) true (cause.Input (input.End 0)) false ≡ InputEnded
both-asked = refl

-- without these options the status is that of the cause, and the report has numbers, names and the line for the end
unasked : (faulty : Bool) (why : Cause) → run_status (asked false false false) faulty why false ≡ status_of why
unasked faulty (cause.Input (input.End left)) = refl
unasked faulty (cause.Input (input.Sync packet)) = refl
unasked faulty (cause.Input input.ReadFault) = refl
unasked faulty (cause.Input input.TooLong) = refl
unasked faulty cause.Joint = refl
unasked faulty (cause.Until j) = refl
unasked faulty (cause.Stop j) = refl
unasked faulty (cause.Refuse j reason) = refl
unasked faulty cause.WriteFault = refl
unasked faulty (cause.NoMemory k) = refl

whole-report : (plugins : List NamedRule) (list : StageList) (cut : ℕ) (why : Cause) → reports_asked (asked false true true) plugins list cut why ≡ reports plugins list cut why
whole-report plugins list cut why = refl

-- a line of plugin 3, bare and not
bare-line : printed_line true 3 (codes "count") (codes "total 5") ≡ codes "total 5" ++ 10 ∷ []
bare-line = refl

whole-line : printed_line false 3 (codes "count") (codes "total 5") ≡ codes "[3] count: total 5" ++ 10 ∷ []
unfolding digits
whole-line = refl

-- without `--live` the report is that of the plugins one after another, with it the live one
after-the-run : (chain : Chain) (cut : ℕ) (why : Cause) → reported_as (asked false false false) None chain cut why ≡ reported_at chain cut why
after-the-run chain cut why = refl

while-it-goes : (chain : Chain) (cut : ℕ) (why : Cause) → reported_as (record (asked false false false) { live = true }) None chain cut why ≡ live_reported chain cut why
while-it-goes chain cut why = refl

-- a unit with a bad sync byte before the packet 2, and seven bytes before the packet 6, which is at position 9 where a null packet
-- is put after every two
bad-sync-byte : gap_printed false (record { start = 0; stop = 0; null = 1; every = 2 }) 9 Ts (record { before = 2; bytes = 188 }) ≡ codes "[0] file: bad sync byte before packet 2" ++ 10 ∷ []
unfolding digits
bad-sync-byte = refl

before-the-cut : gap_printed true (record { start = 0; stop = 0; null = 1; every = 2 }) 10 Ts (record { before = 6; bytes = 7 }) ≡ codes "7 bytes left out before packet 6" ++ 10 ∷ []
unfolding digits
before-the-cut = refl

behind-the-cut : gap_printed true (record { start = 0; stop = 0; null = 1; every = 2 }) 9 Ts (record { before = 6; bytes = 7 }) ≡ []
behind-the-cut = refl

-- the same as lines of a live report, beside a line of a plugin at position 3 and two at 9: the one is at position 3, since a null
-- packet is put after every two, the other at 9, and that of a packet behind the cut is in none
abbrev beside : List LiveLine
beside = record { at = 3; plugin = 1; name = []; text = codes "a" } ∷ record { at = 9; plugin = 1; name = []; text = codes "b" } ∷ record { at = 9; plugin = 2; name = []; text = codes "c" } ∷ []

gaps-beside-lines : live_text true (merged place
    (filter (is_before 10) (input_lines (record { start = 0; stop = 0; null = 1; every = 2 }) (Some (record {
      form = Ts;
      gaps = record { before = 2; bytes = 188 } ∷ record { before = 6; bytes = 7 } ∷ record { before = 7; bytes = 5 } ∷ [];
      behind = 0;
    })))) beside)
    ≡ (codes "bad sync byte before packet 2" ++ 10 ∷ []) ++ ((codes "a" ++ 10 ∷ [])
    ++ ((codes "7 bytes left out before packet 6" ++ 10 ∷ []) ++ ((codes "b" ++ 10 ∷ []) ++ (codes "c" ++ 10 ∷ []))))
unfolding digits
gaps-beside-lines = refl

-- two bare lines of one round
abbrev line : ℕ → ℕ → LiveLine
line at plugin = record { at = at; plugin = plugin; name = codes "count"; text = codes "total 5" }

two-lines : live_text true (line 7 1 ∷ line 7 3 ∷ []) ≡ (codes "total 5" ++ 10 ∷ []) ++ (codes "total 5" ++ 10 ∷ [])
two-lines = refl
