-- From what a run did to what the stream theorem says of it.
use Rattle.std.proofs.Common.{◌≡◌, ℕ, List, Bool, true, false, ◌||◌, Option, refl, ap, ◌∙◌, inl, inr, take}
use Rattle.std.specs.Prelude.{IsSome}
use Rattle.chain_args.specs.declared.plan_type.Plan.{Plan}
use Rattle.ts_outside.specs.Count.{HasCause}
use Rattle.ts_outside.specs.Told.{grown}
use Rattle.ts_outside.specs.Desk.{DeskView}
use Rattle.ts_outside.proofs.Views.{HasCause-raised}
use Rattle.ts_outside.specs.Saying.{Says, ReportsText}
use Rattle.chain_model.specs.declared.input_end.InputEnd.TheVariants as ending
use Rattle.chain_model.specs.declared.cause.Cause.{Cause}
use Rattle.chain_model.specs.declared.cause.Cause.TheVariants.{Input, Joint, Until, Stop, Refuse, WriteFault, NoMemory}
use Rattle.tsp_top.specs.CallOutcome.{status_of, FaultRose, LateRose}
use Rattle.tsp_top.specs.CanEnd.{CanEndBy}
use Rattle.tsp_top.specs.PlannedChain.{input_name, output_name}
use Rattle.tsp_top.specs.declared.status.Status.TheVariants.{Done}

-- a text that was said
pub reports-text : (old made new : DeskView) (text : List ℕ) (failed : Bool) → made.reported ≡ old.reported → made.report_faults ≡ old.report_faults
    → Says made new text failed → ReportsText old new text
reports-text old made new text false reported faults says =
    inl (
      ap (λ (d : DeskView). d.reported) says ∙ ap (λ (o : Option (List ℕ)). grown o text) reported,
      ap (λ (d : DeskView). d.report_faults) says ∙ faults,
    )
reports-text old made new text true reported faults says =
    inr (
      says.0,
      says.1,
      ap (λ (d : DeskView). d.reported) says.2 ∙ ap (λ (o : Option (List ℕ)). grown o (take says.0 text)) reported,
      rw (ap (λ (d : DeskView). d.report_faults) says.2, faults) (HasCause-raised old.report_faults),
    )

pub report-rose : (made new : DeskView) (text : List ℕ) → Says made new text true → HasCause made.report_faults new.report_faults
report-rose made new text says = rw (ap (λ (d : DeskView). d.report_faults) says.2) (HasCause-raised made.report_faults)

pub report-stays : (made new : DeskView) (text : List ℕ) → Says made new text false → new.report_faults ≡ made.report_faults
report-stays made new text says = ap (λ (d : DeskView). d.report_faults) says

-- a fault that is the cause rose
pub fault-rose : (old new : DeskView) (why : Cause) → (why ≡ Input ending.ReadFault → HasCause old.read_faults new.read_faults)
    → (why ≡ WriteFault → HasCause old.write_faults new.write_faults) → FaultRose old new why
fault-rose old new (Input ending.ReadFault) read write = read refl
fault-rose old new (Input (ending.End left)) read write = tt
fault-rose old new (Input (ending.Sync packet)) read write = tt
fault-rose old new (Input ending.TooLong) read write = tt
fault-rose old new Joint read write = tt
fault-rose old new (Until j) read write = tt
fault-rose old new (Stop j) read write = tt
fault-rose old new (Refuse j reason) read write = tt
fault-rose old new WriteFault read write = write refl
fault-rose old new (NoMemory k) read write = tt

-- what failed late rose
pub late-rose : (output : Option (List ℕ)) (old new : DeskView) (why : Cause) (failed said : Bool)
    → (failed ≡ true → IsSome output × HasCause old.write_faults new.write_faults) → (said ≡ true → HasCause old.report_faults new.report_faults)
    → (failed ≡ false → said ≡ false → (status_of why ≡ Done → new.write_faults ≡ old.write_faults) × (new.report_faults ≡ old.report_faults))
    → LateRose output old new why (failed || said)
late-rose output old new why true said closing reporting stay = inl (closing refl)
late-rose output old new why false true closing reporting stay = inr (reporting refl)
late-rose output old new why false false closing reporting stay = stay refl refl

-- an end by a fault is one that the plan can come to
pub can-end : (plan : Plan) (why : Cause) → (why ≡ Input ending.ReadFault → IsSome (input_name plan.input)) → (why ≡ WriteFault → IsSome (output_name plan.output))
    → ((k : ℕ) → why ≡ NoMemory k → CanEndBy plan (NoMemory k)) → CanEndBy plan why
can-end plan (Input ending.ReadFault) read write want = read refl
can-end plan (Input (ending.End left)) read write want = tt
can-end plan (Input (ending.Sync packet)) read write want = tt
can-end plan (Input ending.TooLong) read write want = tt
can-end plan Joint read write want = tt
can-end plan (Until j) read write want = tt
can-end plan (Stop j) read write want = tt
can-end plan (Refuse j reason) read write want = tt
can-end plan WriteFault read write want = write refl
can-end plan (NoMemory k) read write want = want k refl
