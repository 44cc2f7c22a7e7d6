-- What the closed outputs are, and what their count is, after an output was written and closed.
use Rattle.std.proofs.Common.{◌≡◌, ◌≢◌, ℕ, List, [], ◌∷◌, ◌++◌, Bool, true, false, ◌||◌, Option, None, Some, refl, ap, sym, ◌∙◌, append-nil, take, nat_lt}
use Rattle.std.specs.Option.{option_map}
use Rattle.std.specs.Prelude.{IsSome}
use Rattle.ts_packet.specs.declared.cell.Cell.{Cell}
use Rattle.chain_args.specs.declared.output_conf.OutputConf.{OutputConf}
use Rattle.chain_args.specs.declared.output_conf.OutputConf.TheVariants as output
use Rattle.chain_model.specs.Written.{written}
use Rattle.stage_run.specs.declared.output_part.OutputPart.{OutputPart}
use Rattle.stage_run.specs.declared.output_part.OutputPart.TheVariants as out
use Rattle.chain_run.specs.RunOf.{TakesTo, LeftOutput}
use Rattle.chain_model.specs.declared.cause.Cause.{Cause}
use Rattle.chain_model.specs.declared.cause.Cause.TheVariants.{Input, Joint, Until, Stop, Refuse, WriteFault, NoMemory}
use Rattle.ts_outside.specs.Count.{raised, HasCause}
use Rattle.ts_outside.specs.Told.{grown}
use Rattle.ts_outside.specs.Sink.{SinkView, took, write_failed}
use Rattle.ts_outside.specs.Desk.{DeskView, with_output}
use Rattle.ts_outside.proofs.Views.{HasCause-raised, grown-nil}
use Rattle.ts_outside.specs.Entries.{outputs_with}
use Rattle.tsp_top.specs.PlannedChain.{output_name}
use Rattle.tsp_top.specs.Openings.{OpensOutput, output_closed_as, WasOpened}
use Rattle.tsp_top.specs.StreamTheorem.{IsCutPart}

-- the closed outputs with one more
with_output-is : (o : Option (List (List ℕ × List ℕ))) (s : SinkView) (name bytes : List ℕ)
    → s.taken ≡ grown (option_map (λ _. []) o) bytes → s.name ≡ option_map (λ _. name) o → with_output o s ≡ grown o ((name, bytes) ∷ [])
with_output-is None s name bytes taken named = refl
with_output-is (Some l) s name bytes taken named = rw (named, taken) refl

closed-took : (d before : DeskView) (name bytes : List ℕ) (first now : SinkView)
    → first ≡ record { taken = option_map (λ _. []) d.outputs; name = option_map (λ _. name) d.outputs; faults = 0 }
    → now.taken ≡ grown first.taken bytes → now.name ≡ first.name → before.outputs ≡ d.outputs
    → with_output before.outputs now ≡ grown d.outputs ((name, bytes) ∷ [])
closed-took d before name bytes first now started taken named same =
    ap (λ (o : Option (List (List ℕ × List ℕ))). with_output o now) same
    ∙ with_output-is d.outputs now name bytes
    (taken ∙ ap (λ (s : SinkView). grown s.taken bytes) started)
    (named ∙ ap (λ (s : SinkView). s.name) started)

-- the bytes that an output took up to a cut, with the part after it
pub record TookBytes (cells : List Cell) (cut : ℕ) (why : Cause) (old new : Option (List (List ℕ × List ℕ))) (name : Option (List ℕ)) : Type 0 where
  pub part : List ℕ
  pub outputs : new ≡ outputs_with name old (written (take cut cells) ++ part)
  pub cut_part : IsCutPart cells cut why part

-- without a failed write there is no part
no-part : (cells : List Cell) (cut : ℕ) (why : Cause) → why ≢ WriteFault → IsCutPart cells cut why []
no-part cells cut WriteFault other = absurd (other refl)
no-part cells cut (Input how) other = refl
no-part cells cut Joint other = refl
no-part cells cut (Until j) other = refl
no-part cells cut (Stop j) other = refl
no-part cells cut (Refuse j reason) other = refl
no-part cells cut (NoMemory k) other = refl

-- a sink that took the cells up to a cut, by whether a write failed
by-took : (old new : SinkView) (cells : List Cell) (cut : ℕ) (why : Cause) (G : Type 0) → TakesTo old new cells cut why
    → (why ≢ WriteFault → new ≡ took old (written (take cut cells)) → G)
    → (why ≡ WriteFault → (part : List ℕ) → new ≡ write_failed (took old (written (take cut cells) ++ part)) → IsCutPart cells cut why part → G) → G
by-took old new cells cut WriteFault G takes plain failed = failed refl takes.part takes.taken takes.cut
by-took old new cells cut (Input how) G takes plain failed = plain (λ e. cc) takes
by-took old new cells cut Joint G takes plain failed = plain (λ e. cc) takes
by-took old new cells cut (Until j) G takes plain failed = plain (λ e. cc) takes
by-took old new cells cut (Stop j) G takes plain failed = plain (λ e. cc) takes
by-took old new cells cut (Refuse j reason) G takes plain failed = plain (λ e. cc) takes
by-took old new cells cut (NoMemory k) G takes plain failed = plain (λ e. cc) takes

-- the outputs after an output took the cells up to a cut and was closed
pub outputs-took : {K : Type 0} (seen : K → SinkView) (d before : DeskView) (conf : OutputConf) (old new : OutputPart K) (cells : List Cell) (cut : ℕ) (why : Cause) (failed : Bool)
    → OpensOutput seen d conf old → LeftOutput seen old new cells cut why → before.outputs ≡ d.outputs
    → TookBytes cells cut why d.outputs (output_closed_as seen before new failed).outputs (output_name conf)
outputs-took seen d before (output.File name) (out.Stream first) (out.Stream now) cells cut why failed opens left same =
    let bytes : List ℕ = written (take cut cells) in
    let G : Type 0 = TookBytes cells cut why d.outputs (with_output before.outputs (seen now)) (Some name) in
    by-took (seen first) (seen now) cells cut why G left
    (λ other took. record {
      part = [];
      outputs = closed-took d before name (bytes ++ []) (seen first) (seen now) opens
          (ap (λ (s : SinkView). s.taken) took ∙ ap (λ (b : List ℕ). grown (seen first).taken b) (sym (append-nil bytes)))
          (ap (λ (s : SinkView). s.name) took) same;
      cut_part = no-part cells cut why other;
    })
    (λ is part took cut_part. record {
      part = part;
      outputs = closed-took d before name (bytes ++ part) (seen first) (seen now) opens
          (ap (λ (s : SinkView). s.taken) took) (ap (λ (s : SinkView). s.name) took) same;
      cut_part = cut_part;
    })
outputs-took seen d before output.Drop out.Discard out.Discard cells cut why failed opens left same =
    record { part = []; outputs = same; cut_part = no-part cells cut why left }
outputs-took seen d before (output.File name) out.Discard new cells cut why failed opens left same = absurd opens
outputs-took seen d before (output.File name) (out.Stream first) out.Discard cells cut why failed opens left same = absurd left
outputs-took seen d before output.Drop (out.Stream first) new cells cut why failed opens left same = absurd opens
outputs-took seen d before output.Drop out.Discard (out.Stream now) cells cut why failed opens left same = absurd left

-- the outputs after an output was opened and closed at once
pub outputs-empty : {K : Type 0} (seen : K → SinkView) (d before : DeskView) (conf : OutputConf) (part : OutputPart K) (failed : Bool)
    → OpensOutput seen d conf part → before.outputs ≡ d.outputs → (output_closed_as seen before part failed).outputs ≡ outputs_with (output_name conf) d.outputs []
outputs-empty seen d before (output.File name) (out.Stream sink) failed opens same =
    closed-took d before name [] (seen sink) (seen sink) opens (sym (grown-nil (seen sink).taken)) refl same
outputs-empty seen d before output.Drop out.Discard failed opens same = same
outputs-empty seen d before (output.File name) out.Discard failed opens same = absurd opens
outputs-empty seen d before output.Drop (out.Stream sink) failed opens same = absurd opens

or-true : (a : Bool) → (a || true) ≡ true
or-true true = refl
or-true false = refl

-- a write that failed is counted at the closing, and so is a closing that failed
pub write_fault-counted : {K : Type 0} (seen : K → SinkView) (d before : DeskView) (conf : OutputConf) (old new : OutputPart K) (cells : List Cell) (cut : ℕ) (why : Cause) (failed : Bool)
    → OpensOutput seen d conf old → LeftOutput seen old new cells cut why → why ≡ WriteFault
    → HasCause before.write_faults (output_closed_as seen before new failed).write_faults
write_fault-counted seen d before (output.File name) (out.Stream first) (out.Stream now) cells cut why failed opens left is =
    let G : Type 0 = HasCause before.write_faults (output_closed_as seen before (out.Stream now) failed).write_faults in
    by-took (seen first) (seen now) cells cut why G left
    (λ other took. absurd (other is))
    (λ same part took cut_part.
    let one : (seen now).faults ≡ 1 = ap (λ (s : SinkView). s.faults) took ∙ ap raised (ap (λ (s : SinkView). s.faults) opens) in
    rw one (HasCause-raised before.write_faults))
write_fault-counted seen d before output.Drop out.Discard out.Discard cells cut why failed opens left is = absurd (left is)
write_fault-counted seen d before (output.File name) out.Discard new cells cut why failed opens left is = absurd opens
write_fault-counted seen d before (output.File name) (out.Stream first) out.Discard cells cut why failed opens left is = absurd left
write_fault-counted seen d before output.Drop (out.Stream first) new cells cut why failed opens left is = absurd opens
write_fault-counted seen d before output.Drop out.Discard (out.Stream now) cells cut why failed opens left is = absurd left

pub closing-counted : {K : Type 0} (seen : K → SinkView) (before : DeskView) (part : OutputPart K) → WasOpened part
    → HasCause before.write_faults (output_closed_as seen before part true).write_faults
closing-counted seen before (out.Stream now) opened = rw (or-true (nat_lt 0 (seen now).faults)) (HasCause-raised before.write_faults)
closing-counted seen before out.Discard opened = absurd opened

-- where no write and no closing failed, the count stays
pub write_faults-stay : {K : Type 0} (seen : K → SinkView) (d before : DeskView) (conf : OutputConf) (old new : OutputPart K) (cells : List Cell) (cut : ℕ) (why : Cause)
    → OpensOutput seen d conf old → LeftOutput seen old new cells cut why → why ≢ WriteFault
    → (output_closed_as seen before new false).write_faults ≡ before.write_faults
write_faults-stay seen d before (output.File name) (out.Stream first) (out.Stream now) cells cut why opens left other =
    let G : Type 0 = (output_closed_as seen before (out.Stream now) false).write_faults ≡ before.write_faults in
    by-took (seen first) (seen now) cells cut why G left
    (λ same took.
    let none : (seen now).faults ≡ 0 = ap (λ (s : SinkView). s.faults) took ∙ ap (λ (s : SinkView). s.faults) opens in
    rw none refl)
    (λ is part took cut_part. absurd (other is))
write_faults-stay seen d before output.Drop out.Discard out.Discard cells cut why opens left other = refl
write_faults-stay seen d before (output.File name) out.Discard new cells cut why opens left other = absurd opens
write_faults-stay seen d before (output.File name) (out.Stream first) out.Discard cells cut why opens left other = absurd left
write_faults-stay seen d before output.Drop (out.Stream first) new cells cut why opens left other = absurd opens
write_faults-stay seen d before output.Drop out.Discard (out.Stream now) cells cut why opens left other = absurd left

-- a write and a closing can fail only of an output that was opened by a name
pub write-named : {K : Type 0} (seen : K → SinkView) (d : DeskView) (conf : OutputConf) (old new : OutputPart K) (cells : List Cell) (cut : ℕ) (why : Cause)
    → OpensOutput seen d conf old → LeftOutput seen old new cells cut why → why ≡ WriteFault → IsSome (output_name conf)
write-named seen d (output.File name) old new cells cut why opens left is = refl
write-named seen d output.Drop out.Discard out.Discard cells cut why opens left is = absurd (left is)
write-named seen d output.Drop out.Discard (out.Stream now) cells cut why opens left is = absurd left
write-named seen d output.Drop (out.Stream first) new cells cut why opens left is = absurd opens

pub closing-named : {K : Type 0} (seen : K → SinkView) (d : DeskView) (conf : OutputConf) (old new : OutputPart K) (cells : List Cell) (cut : ℕ) (why : Cause)
    → OpensOutput seen d conf old → LeftOutput seen old new cells cut why → WasOpened new → IsSome (output_name conf)
closing-named seen d (output.File name) old new cells cut why opens left opened = refl
closing-named seen d output.Drop out.Discard out.Discard cells cut why opens left opened = absurd opened
closing-named seen d output.Drop out.Discard (out.Stream now) cells cut why opens left opened = absurd left
closing-named seen d output.Drop (out.Stream first) new cells cut why opens left opened = absurd opens
