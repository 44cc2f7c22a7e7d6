-- A call of `tstabcomp`: it reads the words and the input, converts it and writes the output.
-- This project's own rule.
use Rattle.std.specs.Prelude.{◌≡◌, ℕ, ◌<◌, ◌≤◌, List, length, IfSome, Ok, Err, MatchResult}
use Rattle.ts_outside.specs.declared.requests.Purpose.TheVariants.{File}
use Rattle.ts_outside.specs.Desk.{DeskView, content, asked_well, asked_in_vain}
use Rattle.tabcomp_top.specs.TabWords.{Job, job_of}
use Rattle.tabcomp_top.specs.StatusText.{line_of}
use Rattle.tabcomp_top.specs.Telling.{Tells}
use Rattle.tabcomp_top.specs.Conversion.{converted}
use Rattle.tabcomp_top.specs.Putting.{PutEnd, status_of_put, desk_after_put, CanPut}
use Rattle.tabcomp_top.specs.declared.status.TabStatus.{TabStatus}
use Rattle.tabcomp_top.specs.declared.status.TabStatus.TheVariants.{NoMemory, Words, ReadFault, TooMany}

-- the greatest size of an input in bytes
abbrev pub most_bytes : ℕ
most_bytes = 16777216

-- how a call with valid words ended
pub data TabEnd : Type 0 where
  -- the input was not read
  not_read : TabEnd
  -- the input has more bytes than an input may have
  too_long : TabEnd
  -- these bytes were read, and their conversion is refused with this status
  refused : (bytes : List ℕ) → (why : TabStatus) → TabEnd
  -- these bytes were read and converted to this text, which was written to the output, or the writing ended in
  -- another way
  put : (bytes text : List ℕ) → (end : PutEnd) → TabEnd
  -- out of memory before the input was read
  no_memory_to_read : TabEnd
  -- out of memory in the conversion
  no_memory_to_convert : TabEnd

-- the status of that end
abbrev pub status_of : TabEnd → TabStatus
status_of not_read = ReadFault
status_of too_long = TooMany
status_of (refused bytes why) = why
status_of (put bytes text end) = status_of_put end
status_of no_memory_to_read = NoMemory
status_of no_memory_to_convert = NoMemory

-- the desk after a request for the input
abbrev pub asked_input : Job → DeskView → DeskView
asked_input job desk = asked_well desk File job.input

-- the desk after that end, before the line is reported; the output is requested only where there is a
-- conversion
abbrev pub desk_after : Job → DeskView → TabEnd → DeskView
desk_after job desk not_read = asked_in_vain desk File job.input
desk_after job desk too_long = asked_input job desk
desk_after job desk (refused bytes why) = asked_input job desk
desk_after job desk (put bytes text end) = desk_after_put (asked_input job desk) job.output text end
desk_after job desk no_memory_to_read = desk
desk_after job desk no_memory_to_convert = asked_input job desk

-- these bytes were read: those of the input, where the desk has it, and no more than an input may have
pub record IsRead (job : Job) (desk : DeskView) (bytes : List ℕ) : Type 0 where
  pub told : IfSome (content desk job.input) (λ file. bytes ≡ file)
  pub within : length bytes ≤ most_bytes

-- the call can end so: by the length of the input, by the bytes that were read and by their conversion
abbrev pub CanEnd : Job → DeskView → TabEnd → Type 0
CanEnd job desk too_long = IfSome (content desk job.input) (λ file. most_bytes < length file)
CanEnd job desk (refused bytes why) = IsRead job desk bytes × (converted job.task bytes ≡ Err why)
CanEnd job desk (put bytes text end) = IsRead job desk bytes × (converted job.task bytes ≡ Ok text) × CanPut text end
CanEnd job desk _ = Unit {0}

-- a job was done, and its line is not reported yet
pub record DoesJob (job : Job) (old new : DeskView) (status : TabStatus) : Type 0 where
  pub end : TabEnd
  pub can_end : CanEnd job old end
  pub status_is : status ≡ status_of end
  pub desk_is : new ≡ desk_after job old end

-- a call whose words ask for this job
pub record TabTheorem (job : Job) (old new : DeskView) (status : TabStatus) : Type 0 where
  -- how it ended
  pub end : TabEnd
  -- an end that this job can have with this input
  pub can_end : CanEnd job old end
  -- the status is that of the end
  pub status_is : status ≡ status_of end
  -- all requests, outputs and counts are those of that end, and then the line of the status
  -- is reported
  pub desk_is : Tells (desk_after job old end) new (line_of status)

-- a call whose words are refused at this word: nothing is read or opened, and the line is reported
pub record RefusesWords (word : ℕ) (old new : DeskView) (status : TabStatus) : Type 0 where
  pub status_is : status ≡ Words word
  pub desk_is : Tells old new (line_of status)

-- a call with these words
abbrev pub CallsTab : List (List ℕ) → DeskView → DeskView → TabStatus → Type 0
CallsTab words old new status =
    MatchResult (job_of words)
    (λ job. TabTheorem job old new status)
    (λ word. RefusesWords word old new status)
