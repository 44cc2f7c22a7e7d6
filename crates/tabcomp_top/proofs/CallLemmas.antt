-- A job done, from what its steps did.
use Rattle.std.proofs.Common.{◌≡◌, ℕ, List, Ok, refl, ap, ◌∙◌}
use Rattle.ts_outside.specs.Desk.{DeskView}
use Rattle.tabcomp_top.specs.TabWords.{Job}
use Rattle.tabcomp_top.specs.Conversion.{RefusesAs, converted}
use Rattle.tabcomp_top.specs.Putting.{Puts, desk_after_put}
use Rattle.tabcomp_top.specs.TabCall.{DoesJob, IsRead, asked_input, no_memory_to_convert, put, refused}
use Rattle.tabcomp_top.specs.declared.status.TabStatus.{TabStatus}
use Rattle.tabcomp_top.specs.declared.status.TabStatus.TheVariants.{Done, NoMemory, Words, ReadFault, WriteFault, Compile, Decompile, TooMany}

-- the conversion was written to the output
pub does-put : (job : Job) (old mid new : DeskView) (bytes text : List ℕ) (status : TabStatus)
    → IsRead job old bytes → mid ≡ asked_input job old → converted job.task bytes ≡ Ok text → Puts job.output text mid new status
    → DoesJob job old new status
does-put job old mid new bytes text status read asked conversion puts = record {
  end = put bytes text puts.end;
  can_end = (read, conversion, puts.can_end);
  status_is = puts.status_is;
  desk_is = puts.desk_is ∙ ap (λ (d : DeskView). desk_after_put d job.output text puts.end) asked;
}

-- there is no conversion, or it ran out of memory
pub does-refuse : (job : Job) (old mid : DeskView) (bytes : List ℕ) (status : TabStatus)
    → IsRead job old bytes → mid ≡ asked_input job old → RefusesAs status (converted job.task bytes) → DoesJob job old mid status
does-refuse job old mid bytes NoMemory read asked refusal = record { end = no_memory_to_convert; can_end = tt; status_is = refl; desk_is = asked }
does-refuse job old mid bytes Done read asked refusal = record { end = refused bytes Done; can_end = (read, refusal); status_is = refl; desk_is = asked }
does-refuse job old mid bytes (Words word) read asked refusal = record { end = refused bytes (Words word); can_end = (read, refusal); status_is = refl; desk_is = asked }
does-refuse job old mid bytes ReadFault read asked refusal = record { end = refused bytes ReadFault; can_end = (read, refusal); status_is = refl; desk_is = asked }
does-refuse job old mid bytes WriteFault read asked refusal = record { end = refused bytes WriteFault; can_end = (read, refusal); status_is = refl; desk_is = asked }
does-refuse job old mid bytes (Compile fault) read asked refusal = record { end = refused bytes (Compile fault); can_end = (read, refusal); status_is = refl; desk_is = asked }
does-refuse job old mid bytes (Decompile fault) read asked refusal =
    record { end = refused bytes (Decompile fault); can_end = (read, refusal); status_is = refl; desk_is = asked }
does-refuse job old mid bytes TooMany read asked refusal = record { end = refused bytes TooMany; can_end = (read, refusal); status_is = refl; desk_is = asked }
