-- What a call reads of its input. This project's own rule.
use Rattle.std.specs.Prelude.{◌≡◌, ℕ, List, ◌++◌, length, Bool, true, false, Option, IfSome}
use Rattle.chain_args.specs.declared.general_conf.GeneralConf.{GeneralConf}
use Rattle.chain_args.specs.declared.input_conf.InputConf.{InputConf}
use Rattle.chain_args.specs.declared.input_conf.InputConf.TheVariants as input
use Rattle.chain_model.specs.declared.input_end.InputEnd.TheVariants.{ReadFault}
use Rattle.chain_model.specs.declared.cause.Cause.{Cause}
use Rattle.chain_model.specs.declared.cause.Cause.TheVariants.{Input}
use Rattle.chain_model.specs.Prefix.{IsPrefix}
use Rattle.chain_model.specs.Stuffed.{Stuffing}
use Rattle.packet_forms.specs.declared.forms.Form.{Form}
use Rattle.packet_forms.specs.Stripped.{stripped}
use Rattle.ts_outside.specs.Desk.{DeskView, file_of}
use Rattle.ts_outside.specs.Entries.{closed_with}
use Rattle.chain_model.specs.InputRead.{IsInSyncSoFar, list_at_fault, MayRead}
use Rattle.tsp_top.specs.PlannedChain.{bytes_of_packets, stuffing_of}
use Rattle.tsp_top.specs.Sizes.{most_buffer}

-- nothing was read of the input: its file was closed with all its bytes unread, and no read of it failed
abbrev pub ReadsNothing : InputConf → List (List ℕ × List ℕ) → DeskView → DeskView → Type 0
ReadsNothing (input.File name form resync) files old new =
    new.closed_in
    ≡ closed_with old.files old.closed_in (record { left = length (file_of files name); failed = false })
ReadsNothing (input.Null count) files old new = new.closed_in ≡ old.closed_in
ReadsNothing (input.TestGen seed count) files old new = new.closed_in ≡ old.closed_in

-- after a failed read: these bytes of packets, which were read, show no lost sync, and the cut is where the stuffed list
-- of the whole packets among them ends
pub record CutsAtRead (stuffing : Stuffing) (read : List ℕ) (failed : Bool) (cut : ℕ) : Type 0 where
  pub did_fail : failed ≡ true
  pub in_sync : IsInSyncSoFar read
  pub cut_is : cut ≡ length (list_at_fault stuffing read).cells

-- bytes of packets were taken of a file of which these bytes were read: all those at their places; or, where they are found
-- again and the file is known, the first that are found in it
abbrev pub AreTaken : Bool → Form → Option (List (List ℕ × List ℕ)) → List ℕ → List ℕ → List ℕ → Type 0
AreTaken false form told file read taken = taken ≡ stripped form read
AreTaken true form told file read taken = IfSome told (λ _. IsPrefix taken (bytes_of_packets true form file))

-- the file of an input was read and closed by a run that was cut at `cut`
pub record ReadsFile (general : GeneralConf) (form : Form) (resync : Bool) (file : List ℕ)
    (old new : DeskView) (cut : ℕ) (why : Cause) : Type 0 where
  pub read : List ℕ
  pub rest : List ℕ
  -- whether a read failed, of what counts or after it
  pub failed : Bool
  -- where the files are known: these bytes of the file were read, and so many were left
  pub bytes : IfSome old.files (λ told. file ≡ read ++ rest)
  pub closed : new.closed_in
      ≡ closed_with old.files old.closed_in (record { left = length rest; failed = failed })
  -- the bytes of packets that were taken of them
  pub taken : List ℕ
  pub taken_are : AreTaken resync form old.files file read taken
  -- of packets at most the buffer's beyond the cut
  pub within : MayRead (most_buffer general) cut (length taken)
  pub at_fault : why ≡ Input ReadFault → CutsAtRead (stuffing_of general) taken failed cut

-- what a run that was cut at `cut` reads of its input; null packets and generated ones are not read
abbrev pub ReadsTo : GeneralConf → InputConf → List (List ℕ × List ℕ)
    → DeskView → DeskView → ℕ → Cause → Type 0
ReadsTo general (input.File name form resync) files old new cut why =
    ReadsFile general form resync (file_of files name) old new cut why
ReadsTo general (input.Null count) files old new cut why = new.closed_in ≡ old.closed_in
ReadsTo general (input.TestGen seed count) files old new cut why = new.closed_in ≡ old.closed_in
