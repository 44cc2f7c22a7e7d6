-- What was read of an input that was opened and closed.
use Rattle.std.proofs.Common.{◌≡◌, ◌⊎◌, ◌≤◌, ◌<◌, ◌*◌, ◌^◌, ℕ, List, [], ◌∷◌, ◌++◌, Option, None, Some, IfSome, Bool, true, false, if◌then◌else◌, nat_lt, refl, ap, sym, ◌∙◌, subst, inl, inr, length, filter, append-nil, arith}
use Rattle.std.specs.Prelude.{IsSome, unwrap_or}
use Rattle.std.specs.Option.{option_map}
use Rattle.std.proofs.lemmas.Slice.Eq.{bytes_eq-Decides}
use Rattle.chain_args.specs.declared.general_conf.GeneralConf.{GeneralConf}
use Rattle.chain_args.specs.declared.input_conf.InputConf.{InputConf}
use Rattle.chain_args.specs.declared.input_conf.InputConf.TheVariants as input
use Rattle.chain_model.specs.declared.input_end.InputEnd.TheVariants.{ReadFault}
use Rattle.chain_model.specs.declared.cause.Cause.{Cause}
use Rattle.chain_model.specs.declared.cause.Cause.TheVariants.{Input}
use Rattle.chain_model.specs.Apply.{StageList}
use Rattle.chain_model.specs.InputList.{input_of_bytes, input_of_nulls}
use Rattle.chain_model.specs.Prefix.{IsPrefix}
use Rattle.chain_model.specs.Stuffed.{stuffed}
use Rattle.chain_model.specs.Stuffed as model
use Rattle.stage_run.specs.declared.input_part.InputPart.{InputPart}
use Rattle.stage_run.specs.declared.input_part.InputPart.TheVariants.{Stream, Nulls, Generated}
use Rattle.ts_testgen.specs.Generated.{Generator}
use Rattle.stage_run.specs.GeneratedInput.{input_of_generated}
use Rattle.stage_run.specs.Parts.{IsListOf, IsUnused}
use Rattle.chain_model.specs.InputRead.{list_at_fault, MayRead}
use Rattle.chain_run.specs.RunOf.{LeftInput}
use Rattle.chain_run.specs.SourceRead.{CutsAtFault, ReadsSource}
use Rattle.packet_forms.specs.declared.forms.Form.{Form}
use Rattle.packet_forms.specs.Stripped.{unit, stripped, stripped_from}
use Rattle.packet_forms.proofs.Strips.{some-raw}
use Rattle.packet_forms.specs.declared.forms.Form.TheVariants.{Ts, M2ts, Rs204}
use Rattle.packet_forms.specs.FormView.{form_view, came, ReadsThrough}
use Rattle.search_source.specs.Coming.{Coming, ungiven, coming_from, found_in}
use Rattle.search_source.specs.Kept.{KeptTo}
use Rattle.search_source.proofs.Kept.{gaps-rise, gaps-to}
use Rattle.search_source.specs.declared.gap.Gap.{Gap}
use Rattle.search_source.proofs.Through.{same-units}
use Rattle.search_source.specs.SearchView.{SearchView, plain, FoundThrough}
use Rattle.search_source.specs.FileView.{EndsAs}
use Rattle.search_source.specs.declared.file_source.KeptGaps.{KeptGaps}
use Rattle.packet_forms.proofs.Through.{ReadOf, read-of, same-origin}
use Rattle.ts_outside.specs.Count.{raised, HasCause}
use Rattle.ts_outside.specs.Told.{before, told_length}
use Rattle.ts_outside.specs.Source.{SourceView, Origin, own_bytes, unread, read_failed}
use Rattle.ts_outside.specs.Desk.{DeskView, with_input, file_of, content}
use Rattle.ts_outside.specs.declared.closed_inputs.ClosedInput.{ClosedInput}
use Rattle.ts_outside.proofs.Views.{HasCause-raised}
use Rattle.ts_outside.specs.Entries.{closed_with}
use Rattle.tsp_top.specs.PlannedChain.{GivenInput, all_of, stuffing_of, bytes_of_packets, given_of, left_out_of, input_of, GivesFile, GivesInput, input_name}
use Rattle.tsp_top.specs.LeftOut.{LeftOut}
use Rattle.tsp_top.specs.InputRounds.{ExtendsTold, IsPlaced, ToldGaps}
use Rattle.tsp_top.proofs.GapLemmas.{SameSaid, nothing-said, same-said}
use Rattle.tsp_top.proofs.GapRounds.{below, split-gaps}
use Rattle.tsp_top.specs.Sizes.{IsSize, most_buffer}
use Rattle.tsp_top.specs.Openings.{OpensInput, finds_again, packets_view, IsThrough, input_closed_as}
use Rattle.tsp_top.specs.Readings.{ReadsNothing, CutsAtRead, AreTaken, ReadsFile, ReadsTo}

-- where the bytes of a file's packets are from
abbrev origin_of : Form → Option (List ℕ) → Origin
origin_of form bytes = record { unit = unit form; bytes = bytes }

abbrev found_origin : Form → Option (List ℕ) → Origin
found_origin form bytes = record { unit = 6 * unit form; bytes = bytes }

-- a source of packets has the faults of the file's own, before it is read and at the end
view-faults : (resync : Bool) (form : Form) (own : SourceView) → (packets_view resync form own).faults ≡ own.faults
view-faults false form own = refl
view-faults true form own = refl

ends-faults : (outer inner : SourceView) (kept : Option KeptGaps) → EndsAs outer inner kept → outer.faults ≡ inner.faults
ends-faults outer inner None ends = ends.faults
ends-faults outer inner (Some kept) ends = ap (λ (s : SourceView). s.faults) ends.1 ∙ ends.3.kept.through.faults

-- a source whose read failed counts one fault
one-fault : (old new : SourceView) (read : List ℕ) → old.faults ≡ 0 → read_failed old ≡ unread read new → new.faults ≡ 1
one-fault old new read none is = sym (ap (λ (s : SourceView). s.faults) is) ∙ ap raised none

-- a read that failed and ended the run is counted at the closing
pub read_fault-counted : {S : Type 0} (seen inner : S → SourceView) (d made : DeskView) (conf : InputConf) (old new : InputPart S) (kept : Option KeptGaps) (stuffing : model.Stuffing) (buffer cut : ℕ) (why : Cause)
    → OpensInput seen inner d conf old → IsThrough seen inner new kept → LeftInput seen stuffing buffer old new cut why → why ≡ Input ReadFault
    → HasCause made.read_faults (input_closed_as inner made new).read_faults
read_fault-counted seen inner d made (input.File name form resync) (Stream first) (Stream now) kept stuffing buffer cut why opens through left is =
    let none : (seen first).faults ≡ 0 = ap (λ (s : SourceView). s.faults) opens.1 ∙ view-faults resync form (inner first) ∙ ap (λ (s : SourceView). s.faults) opens.0 in
    let one : (inner now).faults ≡ 1 = sym (ends-faults (seen now) (inner now) kept through) ∙ one-fault (seen first) (seen now) left.read none (left.at_fault is).failed in
    rw one (HasCause-raised made.read_faults)
read_fault-counted seen inner d made (input.Null count) (Nulls old) (Nulls new) kept stuffing buffer cut why opens through left is = absurd (left is)
read_fault-counted seen inner d made (input.File name form resync) (Nulls old) new kept stuffing buffer cut why opens through left is = absurd opens
read_fault-counted seen inner d made (input.File name form resync) (Stream first) (Nulls new) kept stuffing buffer cut why opens through left is = absurd left
read_fault-counted seen inner d made (input.Null count) (Stream first) new kept stuffing buffer cut why opens through left is = absurd opens
read_fault-counted seen inner d made (input.Null count) (Nulls old) (Stream now) kept stuffing buffer cut why opens through left is = absurd left
read_fault-counted seen inner d made (input.File name form resync) (Generated old packets) new kept stuffing buffer cut why opens through left is = absurd opens
read_fault-counted seen inner d made (input.File name form resync) (Stream first) (Generated new packets) kept stuffing buffer cut why opens through left is = absurd left
read_fault-counted seen inner d made (input.Null count) (Generated old packets) new kept stuffing buffer cut why opens through left is = absurd opens
read_fault-counted seen inner d made (input.Null count) (Nulls old) (Generated new packets) kept stuffing buffer cut why opens through left is = absurd left
read_fault-counted seen inner d made (input.TestGen seed count) (Stream first) new kept stuffing buffer cut why opens through left is = absurd opens
read_fault-counted seen inner d made (input.TestGen seed count) (Nulls old) new kept stuffing buffer cut why opens through left is = absurd opens
read_fault-counted seen inner d made (input.TestGen seed count) (Generated old packets) (Stream now) kept stuffing buffer cut why opens through left is = absurd left
read_fault-counted seen inner d made (input.TestGen seed count) (Generated old packets) (Nulls now) kept stuffing buffer cut why opens through left is = absurd left
read_fault-counted seen inner d made (input.TestGen seed count) (Generated old packets) (Generated new same) kept stuffing buffer cut why opens through left is = absurd (left is)

-- these bytes are left to a source, where the files are known
abbrev LeftTold : Option (List (List ℕ × List ℕ)) → SourceView → List ℕ → Type 0
LeftTold None s left = s.left ≡ None
LeftTold (Some files) s left = s.left ≡ Some left

-- the bytes left to a source that was opened for a file are the file's, where the files are known
opened-left : (told : Option (List (List ℕ × List ℕ))) (files : List (List ℕ × List ℕ)) (name : List ℕ) (s : SourceView)
    → IfSome told (λ t. files ≡ t) → s.left ≡ option_map (λ fs. file_of fs name) told → LeftTold told s (file_of files name)
opened-left None files name s same e = e
opened-left (Some t) files name s same e = e ∙ ap (λ (fs : List (List ℕ × List ℕ)). Some (file_of fs name)) (sym same)

opens-left : (s : SourceView) (d : DeskView) (files : List (List ℕ × List ℕ)) (name : List ℕ)
    → IfSome d.files (λ t. files ≡ t) → s ≡ record { left = content d name; faults = 0; origin = own_bytes } → LeftTold d.files s (file_of files name)
opens-left s d files name same opens = opened-left d.files files name s same (ap (λ (v : SourceView). v.left) opens)

-- a name stands for its own bytes where it stands first
file-of-first : (name bytes : List ℕ) → file_of ((name, bytes) ∷ []) name ≡ bytes
file-of-first name bytes = ap (λ (b : Bool). if b then bytes else []) ((bytes_eq-Decides name name).1 refl)

-- the files of a run: those that are known, and where none are, some that have the bytes of its input; what its input gives
-- over them; and what holds of what is left out
pub record FilesOf (d : DeskView) (conf : InputConf) (s : model.Stuffing) (list : StageList) (Fits : Option LeftOut → Type 0) : Type 0 where
  pub files : List (List ℕ × List ℕ)
  pub files_are : IfSome d.files (λ told. files ≡ told)
  pub given : GivenInput
  pub given_is : GivesInput conf d.files files given
  pub list_is : list ≡ stuffed s given.list
  pub said : Fits given.left_out

-- the bytes of packets that are left to a source that was opened
view-left : (resync : Bool) (form : Form) (own : SourceView) → (packets_view resync form own).left ≡ option_map (bytes_of_packets resync form) own.left
view-left false form own = refl
view-left true form own = refl

-- an input gives that of the files
gives-known : (resync : Bool) (told : Option (List (List ℕ × List ℕ))) (form : Form) (file : List ℕ) → GivesFile resync told (given_of resync form file) (given_of resync form file)
gives-known true None form file = (bytes_of_packets true form file, record { form = form; gaps = (found_in form file).gaps; behind = (found_in form file).behind }, refl)
gives-known true (Some t) form file = refl
gives-known false told form file = refl

pub some-input : (conf : InputConf) (told : Option (List (List ℕ × List ℕ))) (files : List (List ℕ × List ℕ)) → (given : GivenInput) × GivesInput conf told files given
some-input (input.File name form resync) told files = (input_of (input.File name form resync) files, gives-known resync told form (file_of files name))
some-input (input.Null count) told files = (input_of (input.Null count) files, refl)
some-input (input.TestGen seed count) told files = (input_of (input.TestGen seed count) files, refl)

files-of-nulls : (told : Option (List (List ℕ × List ℕ))) → (files : List (List ℕ × List ℕ)) × IfSome told (λ t. files ≡ t)
files-of-nulls None = ([], tt)
files-of-nulls (Some t) = (t, refl)

-- the files of a desk that are known, or none
pub some-files : (d : DeskView) → (files : List (List ℕ × List ℕ)) × IfSome d.files (λ t. files ≡ t)
some-files d = files-of-nulls d.files

-- the units of packets at their places, and the six of those that are found again, tell the one from the other
unit-within : (form : Form) → (188 ≤ unit form) × (unit form ≤ 204)
unit-within Ts = (omega arith, omega arith)
unit-within M2ts = (omega arith, omega arith)
unit-within Rs204 = (omega arith, omega arith)

pub six-units : (form other : Form) → unit form ≡ 6 * unit other → ⊥
six-units form other same =
    let few = (unit-within form).1 in
    let many = (unit-within other).0 in
    absurd (omega arith)

-- what was taken of a file, and its bytes are these
record GivenOf (told : Option (List (List ℕ × List ℕ))) (name : List ℕ) (form : Form) (resync : Bool) (bytes : List ℕ) (Fits : Option LeftOut → Type 0) : Type 0 where
  files : List (List ℕ × List ℕ)
  files_are : IfSome told (λ t. files ≡ t)
  left_out : Option LeftOut
  gives : GivesFile resync told (given_of resync form (file_of files name)) (record { list = input_of_bytes bytes; left_out = left_out })
  said : Fits left_out

-- what is told of a file that was opened
told-bytes : (next : List ℕ → List ℕ) (own old : Option (List ℕ)) (file bytes : List ℕ) → own ≡ Some file → old ≡ option_map next own → IfSome old (λ l. l ≡ bytes) → next file ≡ bytes
told-bytes next own old file bytes e through is = subst (λ (o : Option (List ℕ)). IfSome o (λ l. l ≡ bytes)) (through ∙ ap (option_map next) e) is

given-of-file : (Fits : Option LeftOut → Type 0) (told : Option (List (List ℕ × List ℕ))) (name : List ℕ) (form : Form) (resync : Bool) (own old new last : SourceView) (bytes : List ℕ) (kept : Option KeptGaps)
    → (kept ≡ None → resync ≡ false → Fits None) → ((k : KeptGaps) → kept ≡ Some k → (out : LeftOut) × Fits (Some out))
    → ((k : KeptGaps) (file : List ℕ) → kept ≡ Some k → resync ≡ true → own.left ≡ Some file → Fits (left_out_of true form file))
    → own.left ≡ option_map (λ fs. file_of fs name) told → old ≡ packets_view resync form own → old.origin ≡ new.origin → EndsAs new last kept
    → IfSome old.left (λ l. l ≡ bytes) → GivenOf told name form resync bytes Fits
given-of-file Fits told name form false own old new last bytes (Some kept) none unknown known e takes same ends is =
    absurd (six-units form kept.form (sym (ap (λ (v : SourceView). v.origin.unit) takes) ∙ ap (λ (o : Origin). o.unit) same ∙ ends.2))
given-of-file Fits told name form true own old new last bytes None none unknown known e takes same ends is =
    absurd (six-units ends.form form (sym ends.unit_is ∙ ap (λ (o : Origin). o.unit) (sym same) ∙ ap (λ (v : SourceView). v.origin.unit) takes))
given-of-file Fits None name form false own old new last bytes None none unknown known e takes same ends is =
    let raw = some-raw form 0 bytes in
    record {
      files = (name, raw.0) ∷ [];
      files_are = tt;
      left_out = None;
      gives = ap (λ (l : List ℕ). let g : GivenInput = record { list = input_of_bytes l; left_out = None } in g) (sym (ap (stripped form) (file-of-first name raw.0) ∙ raw.1));
      said = none refl refl;
    }
given-of-file Fits (Some t) name form false own old new last bytes None none unknown known e takes same ends is =
    record {
      files = t;
      files_are = refl;
      left_out = None;
      gives = ap (λ (l : List ℕ). let g : GivenInput = record { list = input_of_bytes l; left_out = None } in g)
          (sym (told-bytes (bytes_of_packets false form) own.left old.left (file_of t name) bytes e (ap (λ (v : SourceView). v.left) takes ∙ view-left false form own) is));
      said = none refl refl;
    }
given-of-file Fits None name form true own old new last bytes (Some kept) none unknown known e takes same ends is =
    let out = unknown kept refl in
    record {
      files = [];
      files_are = tt;
      left_out = Some out.0;
      gives = (bytes, out.0, refl);
      said = out.1;
    }
given-of-file Fits (Some t) name form true own old new last bytes (Some kept) none unknown known e takes same ends is =
    let file : List ℕ = file_of t name in
    record {
      files = t;
      files_are = refl;
      left_out = left_out_of true form file;
      gives = ap (λ (l : List ℕ). let g : GivenInput = record { list = input_of_bytes l; left_out = left_out_of true form file } in g)
          (sym (told-bytes (bytes_of_packets true form) own.left old.left file bytes e (ap (λ (v : SourceView). v.left) takes ∙ view-left true form own) is));
      said = known kept file refl refl e;
    }

-- what was kept of a file that is known
pub record KeptOfFile {S : Type 0} (seen inner : S → SourceView) (part new : InputPart S) (form : Form) (file : List ℕ) (kept : KeptGaps) : Type 0 where
  pub source : S
  pub part_is : part ≡ Stream source
  pub left : (inner source).left ≡ Some file
  pub view : seen source ≡ packets_view true form (inner source)
  pub small : length file < 2 ^ 63
  pub now : S
  pub new_is : new ≡ Stream now
  pub same : (seen source).origin ≡ (seen now).origin
  pub ends : EndsAs (seen now) (inner now) (Some kept)

from-file : {S : Type 0} (seen inner : S → SourceView) (part new : InputPart S) (form : Form) (file : List ℕ) (kept : KeptGaps) (of : KeptOfFile seen inner part new form file kept)
    → (seen of.now).origin ≡ found_origin form (Some file)
from-file seen inner part new form file kept of = sym of.same ∙ ap (λ (v : SourceView). v.origin) of.view ∙ ap (found_origin form) of.left

form-kept : {S : Type 0} (seen inner : S → SourceView) (part new : InputPart S) (form : Form) (file : List ℕ) (kept : KeptGaps) → KeptOfFile seen inner part new form file kept → kept.form ≡ form
form-kept seen inner part new form file kept of =
    sym (same-units form kept.form (sym (ap (λ (o : Origin). o.unit) (from-file seen inner part new form file kept of)) ∙ of.ends.2))

-- at the end: what is said of it
pub plain-file : {S : Type 0} (seen inner : S → SourceView) (part new : InputPart S) (s : model.Stuffing) (all : Option KeptGaps) (form : Form) (file : List ℕ) (kept : KeptGaps) → 1 ≤ s.every → all ≡ Some kept
    → KeptOfFile seen inner part new form file kept → SameSaid s all (left_out_of true form file)
plain-file seen inner part new s all form file kept some is of =
    let seen_of : of.ends.0.origin ≡ found_origin form (Some file) = ap (λ (v : SourceView). v.origin) (sym of.ends.1) ∙ from-file seen inner part new form file kept of in
    subst (λ (k : Option KeptGaps). SameSaid s k (left_out_of true form file)) (sym is)
    (same-said s form file kept some (form-kept seen inner part new form file kept of)
    (λ lost. gaps-to form file kept.gaps.items kept.number kept.behind kept.over of.ends.0 (inner of.now) seen_of of.small
    (subst (λ (b : Bool). KeptTo of.ends.0 (inner of.now) b kept.gaps.items kept.number kept.behind kept.over) lost of.ends.3)))

-- an input whose packets are not found again
pub opened-placed : {S : Type 0} (seen inner : S → SourceView) (d : DeskView) (conf : InputConf) (part : InputPart S) → finds_again conf ≡ false → OpensInput seen inner d conf part → IsPlaced seen part
opened-placed seen inner d (input.File name form false) (Stream source) is opens = λ own units. six-units form own (sym (ap (λ (v : SourceView). v.origin.unit) opens.1) ∙ units)
opened-placed seen inner d (input.File name form true) (Stream source) is opens = absurd (let e : true ≡ false = is in cc)
opened-placed seen inner d (input.Null count) (Stream source) is opens = absurd opens
opened-placed seen inner d (input.TestGen seed count) (Stream source) is opens = absurd opens
opened-placed seen inner d conf (Nulls packets) is opens = tt
opened-placed seen inner d conf (Generated generator packets) is opens = tt

-- while the run goes: what was told goes on
pub live-file : {S : Type 0} (seen inner : S → SourceView) (part new : InputPart S) (s : model.Stuffing) (all : Option KeptGaps) (told_form form : Form) (gaps : List Gap) (at : ℕ) (why : Cause) (file : List ℕ) (kept : KeptGaps)
    → 1 ≤ s.every → all ≡ Some kept → ToldGaps seen s part at told_form gaps → KeptOfFile seen inner part new form file kept → ExtendsTold s told_form gaps at all why (left_out_of true form file)
live-file seen inner part new s all told_form form gaps at why file kept some is told of =
    let view : (seen of.source).origin ≡ found_origin form (Some file) = ap (λ (v : SourceView). v.origin) of.view ∙ ap (found_origin form) of.left in
    let bytes : (seen of.source).left ≡ Some (found_in form file).bytes = ap (λ (v : SourceView). v.left) of.view ∙ ap (option_map (λ f. (found_in form f).bytes)) of.left in
    let own : gaps ≡ filter (below s at) (found_in form file).gaps = told.known of.source form file of.part_is bytes view of.small in
    let rest = split-gaps s at 0 (found_in form file).gaps some (gaps-rise form file) in
    subst (λ (k : Option KeptGaps). ExtendsTold s told_form gaps at k why (left_out_of true form file)) (sym is) (
      record {
        later = rest.later;
        all_are = rest.are ∙ ap (λ (l : List Gap). l ++ rest.later) (sym own);
        behind = rest.behind;
        form_is = sym (told.form_is of.source form of.part_is (ap (λ (o : Origin). o.unit) view));
      },
      λ at_end over. ap (λ (f : Form). (found_in f file).behind) (sym (form-kept seen inner part new form file kept of))
          ∙ of.ends.4 file (ap (λ (o : Origin). o.bytes) (from-file seen inner part new form file kept of)) over,
    )

-- of an input that is no file no gaps are kept
nulls-kept : {S : Type 0} (seen inner : S → SourceView) (s : model.Stuffing) (buffer packets cut : ℕ) (why : Cause) (new : InputPart S) (kept : Option KeptGaps) → IsThrough seen inner new kept
    → LeftInput seen s buffer (Nulls packets) new cut why → kept ≡ None
nulls-kept seen inner s buffer packets cut why (Nulls now) kept through left = through
nulls-kept seen inner s buffer packets cut why (Stream now) kept through left = absurd left
nulls-kept seen inner s buffer packets cut why (Generated now many) kept through left = absurd left

generated-kept : {S : Type 0} (seen inner : S → SourceView) (s : model.Stuffing) (buffer packets cut : ℕ) (generator : Generator) (why : Cause) (new : InputPart S) (kept : Option KeptGaps) → IsThrough seen inner new kept
    → LeftInput seen s buffer (Generated generator packets) new cut why → kept ≡ None
generated-kept seen inner s buffer packets cut generator why (Generated now many) kept through left = through
generated-kept seen inner s buffer packets cut generator why (Stream now) kept through left = absurd left
generated-kept seen inner s buffer packets cut generator why (Nulls now) kept through left = absurd left

-- the list of an input that was opened is that of the plan, over some files
pub opened-list : {S : Type 0} (Fits : Option LeftOut → Type 0) (seen inner : S → SourceView) (d : DeskView) (conf : InputConf) (part new : InputPart S) (s left_with : model.Stuffing) (list : StageList) (kept : Option KeptGaps) (buffer cut : ℕ) (why : Cause)
    → (kept ≡ None → finds_again conf ≡ false → Fits None) → ((k : KeptGaps) → kept ≡ Some k → (out : LeftOut) × Fits (Some out))
    → ((k : KeptGaps) (form : Form) (file : List ℕ) → kept ≡ Some k → KeptOfFile seen inner part new form file k → Fits (left_out_of true form file))
    → OpensInput seen inner d conf part → IsListOf seen part s list → IsThrough seen inner new kept → LeftInput seen left_with buffer part new cut why → FilesOf d conf s list Fits
opened-list Fits seen inner d (input.File name form resync) (Stream source) (Stream now) s left_with list kept buffer cut why none unknown known opens is through left =
    let same = (same-origin (seen source) (seen now) left.read left.source).1 in
    let chosen = given-of-file Fits d.files name form resync (inner source) (seen source) (seen now) (inner now) is.0 kept none unknown
    (λ k file kept_is found e. known k form file kept_is (record {
      source = source;
      part_is = refl;
      left = e;
      view = subst (λ (r : Bool). seen source ≡ packets_view r form (inner source)) found opens.1;
      small = subst (λ (o : Option (List ℕ)). told_length o < 2 ^ 63) e opens.2;
      now = now;
      new_is = refl;
      same = same;
      ends = subst (λ (o : Option KeptGaps). EndsAs (seen now) (inner now) o) kept_is through;
    }))
    (ap (λ (v : SourceView). v.left) opens.0) opens.1 same through is.2 in
    record {
      files = chosen.files;
      files_are = chosen.files_are;
      given = record { list = input_of_bytes is.0; left_out = chosen.left_out };
      given_is = chosen.gives;
      list_is = is.1;
      said = chosen.said;
    }
opened-list Fits seen inner d (input.File name form resync) (Stream source) (Nulls now) s left_with list kept buffer cut why none unknown known opens is through left = absurd left
opened-list Fits seen inner d (input.File name form resync) (Stream source) (Generated now many) s left_with list kept buffer cut why none unknown known opens is through left = absurd left
opened-list Fits seen inner d (input.Null count) (Nulls packets) new s left_with list kept buffer cut why none unknown known opens is through left =
    let chosen = files-of-nulls d.files in
    record {
      files = chosen.0;
      files_are = chosen.1;
      given = all_of (input_of_nulls count);
      given_is = refl;
      list_is = is ∙ ap (λ n. stuffed s (input_of_nulls n)) opens;
      said = none (nulls-kept seen inner left_with buffer packets cut why new kept through left) refl;
    }
opened-list Fits seen inner d (input.File name form resync) (Nulls packets) new s left_with list kept buffer cut why none unknown known opens is through left = absurd opens
opened-list Fits seen inner d (input.Null count) (Stream source) new s left_with list kept buffer cut why none unknown known opens is through left = absurd opens
opened-list Fits seen inner d (input.File name form resync) (Generated generator packets) new s left_with list kept buffer cut why none unknown known opens is through left = absurd opens
opened-list Fits seen inner d (input.Null count) (Generated generator packets) new s left_with list kept buffer cut why none unknown known opens is through left = absurd opens
opened-list Fits seen inner d (input.TestGen seed count) (Stream source) new s left_with list kept buffer cut why none unknown known opens is through left = absurd opens
opened-list Fits seen inner d (input.TestGen seed count) (Nulls packets) new s left_with list kept buffer cut why none unknown known opens is through left = absurd opens
opened-list Fits seen inner d (input.TestGen seed count) (Generated generator packets) new s left_with list kept buffer cut why none unknown known opens is through left =
    let chosen = files-of-nulls d.files in
    record {
      files = chosen.0;
      files_are = chosen.1;
      given = all_of (input_of_generated seed count);
      given_is = refl;
      list_is = is
          ∙ ap (λ (n : ℕ). stuffed s (input_of_generated generator.seed n)) opens.1
          ∙ ap (λ (g : Generator). stuffed s (input_of_generated g.seed count)) opens.0;
      said = none (generated-kept seen inner left_with buffer packets cut generator why new kept through left) refl;
    }

-- the two ways in which a run reports what is left out
pub plain-list : {S : Type 0} (seen inner : S → SourceView) (d : DeskView) (conf : InputConf) (part new : InputPart S) (s left_with : model.Stuffing) (list : StageList) (kept : Option KeptGaps) (buffer cut : ℕ) (why : Cause) → 1 ≤ s.every
    → OpensInput seen inner d conf part → IsListOf seen part s list → IsThrough seen inner new kept → LeftInput seen left_with buffer part new cut why → FilesOf d conf s list (SameSaid s kept)
plain-list seen inner d conf part new s left_with list kept buffer cut why some opens is through left =
    opened-list (SameSaid s kept) seen inner d conf part new s left_with list kept buffer cut why
    (λ none placed. nothing-said s kept none)
    (λ k kept_is. (
      record { form = k.form; gaps = k.gaps.items; behind = k.behind },
      subst (λ (o : Option KeptGaps). SameSaid s o (Some (let out : LeftOut = record { form = k.form; gaps = k.gaps.items; behind = k.behind } in out))) (sym kept_is) (λ bare m why all. (refl, refl)),
    ))
    (λ k form file kept_is of. plain-file seen inner part new s kept form file k some kept_is of)
    opens is through left

pub live-list : {S : Type 0} (seen inner : S → SourceView) (d : DeskView) (conf : InputConf) (part new : InputPart S) (s left_with : model.Stuffing) (list : StageList) (kept : Option KeptGaps) (buffer cut : ℕ) (why : Cause)
    (form : Form) (gaps : List Gap) (at : ℕ) → 1 ≤ s.every → ToldGaps seen s part at form gaps
    → OpensInput seen inner d conf part → IsListOf seen part s list → IsThrough seen inner new kept → LeftInput seen left_with buffer part new cut why → FilesOf d conf s list (ExtendsTold s form gaps at kept why)
live-list seen inner d conf part new s left_with list kept buffer cut why form gaps at some told opens is through left =
    opened-list (ExtendsTold s form gaps at kept why) seen inner d conf part new s left_with list kept buffer cut why
    (λ none placed. subst (λ (o : Option KeptGaps). ExtendsTold s form gaps at o why None) (sym none) (told.placed (opened-placed seen inner d conf part placed opens)))
    (λ k kept_is. (
      record { form = form; gaps = gaps; behind = k.behind },
      subst (λ (o : Option KeptGaps). ExtendsTold s form gaps at o why (Some (let out : LeftOut = record { form = form; gaps = gaps; behind = k.behind } in out))) (sym kept_is)
          (record { later = []; all_are = sym (append-nil gaps); behind = tt; form_is = refl }, λ at_end over. refl),
    ))
    (λ k own file kept_is of. live-file seen inner part new s kept form own gaps at why file k some kept_is told of)
    opens is through left

-- an input that was opened is unused
pub opened-unused : {S : Type 0} (seen inner : S → SourceView) (d : DeskView) (conf : InputConf) (part : InputPart S) → OpensInput seen inner d conf part → IsUnused part
opened-unused seen inner d conf (Stream source) opens = tt
opened-unused seen inner d conf (Nulls packets) opens = tt
opened-unused seen inner d (input.File name form resync) (Generated generator packets) opens = absurd opens
opened-unused seen inner d (input.Null count) (Generated generator packets) opens = absurd opens
opened-unused seen inner d (input.TestGen seed count) (Generated generator packets) opens = ap (λ (g : Generator). g.given) opens.0

-- the closed inputs with one more
with_input-is : (told : Option (List (List ℕ × List ℕ))) (o : Option (List ClosedInput)) (s : SourceView) (left : List ℕ) → LeftTold told s left
    → with_input o s ≡ closed_with told o (record { left = length left; failed = nat_lt 0 s.faults })
with_input-is None None s left is = refl
with_input-is None (Some l) s left is = rw is refl
with_input-is (Some t) None s left is = refl
with_input-is (Some t) (Some l) s left is = rw is refl

-- an input that was opened and closed at once
pub reads-nothing : {S : Type 0} (seen inner : S → SourceView) (d made new : DeskView) (files : List (List ℕ × List ℕ)) (conf : InputConf) (part : InputPart S)
    → IfSome d.files (λ t. files ≡ t) → OpensInput seen inner d conf part → made.closed_in ≡ d.closed_in → new.closed_in ≡ (input_closed_as inner made part).closed_in → ReadsNothing conf files d new
reads-nothing seen inner d made new files (input.File name form resync) (Stream source) told opens same is =
    let none : (inner source).faults ≡ 0 = ap (λ (s : SourceView). s.faults) opens.0 in
    let all : ℕ = length (file_of files name) in
    is ∙ with_input-is d.files made.closed_in (inner source) (file_of files name) (opens-left (inner source) d files name told opens.0)
    ∙ ap (λ (n : ℕ). closed_with d.files made.closed_in (record { left = all; failed = nat_lt 0 n })) none
    ∙ ap (λ (o : Option (List ClosedInput)). closed_with d.files o (record { left = all; failed = false })) same
reads-nothing seen inner d made new files (input.Null count) (Nulls packets) told opens same is = is ∙ same
reads-nothing seen inner d made new files (input.File name form resync) (Nulls packets) told opens same is = absurd opens
reads-nothing seen inner d made new files (input.Null count) (Stream source) told opens same is = absurd opens
reads-nothing seen inner d made new files (input.File name form resync) (Generated generator packets) told opens same is = absurd opens
reads-nothing seen inner d made new files (input.Null count) (Generated generator packets) told opens same is = absurd opens
reads-nothing seen inner d made new files (input.TestGen seed count) (Stream source) told opens same is = absurd opens
reads-nothing seen inner d made new files (input.TestGen seed count) (Nulls packets) told opens same is = absurd opens
reads-nothing seen inner d made new files (input.TestGen seed count) (Generated generator packets) told opens same is = is ∙ same

-- what was read of a file whose packets gave these bytes: the file's own, as far as it is known
record OwnRead (told : Option (List (List ℕ × List ℕ))) (form : Form) (resync : Bool) (file given : List ℕ) (last : SourceView) : Type 0 where
  read : List ℕ
  rest : List ℕ
  bytes : IfSome told (λ t. file ≡ read ++ rest)
  left : LeftTold told last rest
  taken : AreTaken resync form told file read given

-- where the bytes left to a source are not known, they are not known after a read
untold-left : (given : List ℕ) (next : List ℕ → List ℕ) (new last : Option (List ℕ)) → None ≡ before given new → new ≡ option_map next last → last ≡ None
untold-left given next new None none is = refl
untold-left given next new (Some rest) none is =
    let no : None ≡ before given (Some (next rest)) = none ∙ ap (before given) is in
    absurd cc

-- one function after another
map-twice : {A B : Type 0} (f : List ℕ → A) (g : A → B) (o : Option (List ℕ)) → option_map g (option_map f o) ≡ option_map (λ x. g (f x)) o
map-twice f g None = refl
map-twice f g (Some x) = refl

-- the file was read through a source of packets at their places
placed-read : (told : Option (List (List ℕ × List ℕ))) (form : Form) (file given : List ℕ) (first old new last : SourceView) → LeftTold told first file → old ≡ form_view form 0 first first
    → (old ≡ unread given new) ⊎ (read_failed old ≡ unread given new) → ReadsThrough new last → OwnRead told form false file given last
placed-read None form file given first old new last left takes moved through =
    let raw = some-raw form 0 given in
    let none : old.left ≡ None = ap (λ (s : SourceView). s.left) takes ∙ ap (option_map (stripped form)) left in
    record {
      read = raw.0;
      rest = [];
      bytes = tt;
      left = untold-left given (stripped_from through.form through.at) new.left last.left (sym none ∙ (same-origin old new given moved).0) through.left;
      taken = sym raw.1;
    }
placed-read (Some files) form file given first old new last left takes moved through =
    let parts = same-origin old new given moved in
    let whole : old.left ≡ Some (stripped form file) = ap (λ (s : SourceView). s.left) takes ∙ ap (option_map (stripped form)) left in
    let from : old.origin ≡ record { unit = unit form; bytes = Some file } = ap (λ (s : SourceView). s.origin) takes ∙ ap (origin_of form) left in
    let of_file : ReadOf form file given last.left = read-of form file given old new last whole from parts.0 parts.1 through in
    record {
      read = of_file.raw;
      rest = of_file.rest;
      bytes = of_file.file_is;
      left = of_file.left_is;
      taken = sym of_file.given_is;
    }

-- a file of which so much is left, and the first of its packets, of which so many bytes are left
file-parts : (file : List ℕ) (left : Option (List ℕ)) → Some file ≡ before (came (Some file) left) left → (read : List ℕ) × (rest : List ℕ) × (file ≡ read ++ rest) × (left ≡ Some rest)
file-parts file None behind = absurd cc
file-parts file (Some rest) behind = (came (Some file) (Some rest), rest, cc, refl)

first-bytes : (all given : List ℕ) (left : Option (List ℕ)) → Some all ≡ before given left → IsPrefix given all
first-bytes all given None is = absurd cc
first-bytes all given (Some rest) is = (rest, cc)

-- the file was read through a source of packets that are found again
found-read : (told : Option (List (List ℕ × List ℕ))) (form : Form) (file given : List ℕ) (first old new last : SourceView) (view : SearchView) → LeftTold told first file → old ≡ packets_view true form first
    → (old ≡ unread given new) ⊎ (read_failed old ≡ unread given new) → new ≡ plain view → FoundThrough view last → OwnRead told form true file given last
found-read None form file given first old new last view left takes moved is through =
    let none : old.left ≡ None = ap (λ (s : SourceView). s.left) takes ∙ ap (option_map (bytes_of_packets true form)) left in
    let next : List ℕ → Coming = λ rest. ungiven [] through.noted (coming_from through.form through.due through.tail through.near through.left through.number (through.hand ++ rest)) in
    record {
      read = [];
      rest = [];
      bytes = tt;
      left = untold-left given (λ rest. (next rest).bytes) new.left last.left (sym none ∙ (same-origin old new given moved).0)
          (ap (λ (s : SourceView). s.left) is ∙ ap (option_map (λ (c : Coming). c.bytes)) through.coming ∙ map-twice next (λ (c : Coming). c.bytes) last.left);
      taken = tt;
    }
found-read (Some files) form file given first old new last view left takes moved is through =
    let parts = same-origin old new given moved in
    let whole : old.left ≡ Some (bytes_of_packets true form file) = ap (λ (s : SourceView). s.left) takes ∙ ap (option_map (bytes_of_packets true form)) left in
    let from : old.origin ≡ found_origin form (Some file) = ap (λ (s : SourceView). s.origin) takes ∙ ap (found_origin form) left in
    let told : view.origin.bytes ≡ Some file = ap (λ (s : SourceView). s.origin.bytes) (sym is) ∙ ap (λ (o : Origin). o.bytes) (sym parts.1 ∙ from) in
    let of_file = file-parts file last.left (subst (λ (all : Option (List ℕ)). all ≡ before (came all last.left) last.left) told through.behind) in
    record {
      read = of_file.0;
      rest = of_file.1;
      bytes = of_file.2;
      left = of_file.3;
      taken = first-bytes (bytes_of_packets true form file) given new.left (sym whole ∙ parts.0);
    }

-- whichever source it is, its units tell
own-read : (told : Option (List (List ℕ × List ℕ))) (form : Form) (resync : Bool) (file given : List ℕ) (first old new last : SourceView) (kept : Option KeptGaps) → LeftTold told first file → old ≡ packets_view resync form first
    → (old ≡ unread given new) ⊎ (read_failed old ≡ unread given new) → EndsAs new last kept → OwnRead told form resync file given last
own-read told form false file given first old new last None left takes moved ends = placed-read told form file given first old new last left takes moved ends
own-read told form true file given first old new last (Some kept) left takes moved ends = found-read told form file given first old new last ends.0 left takes moved ends.1 ends.3.kept.through
own-read told form false file given first old new last (Some kept) left takes moved ends =
    absurd (six-units form kept.form (sym (ap (λ (s : SourceView). s.origin.unit) takes) ∙ ap (λ (o : Origin). o.unit) (same-origin old new given moved).1 ∙ ends.2))
own-read told form true file given first old new last None left takes moved ends =
    absurd (six-units ends.form form (sym ends.unit_is ∙ ap (λ (o : Origin). o.unit) (sym (same-origin old new given moved).1) ∙ ap (λ (s : SourceView). s.origin.unit) takes))

-- after a failed read
read-fault : (general : GeneralConf) (old new : SourceView) (read : List ℕ) (stuffing : model.Stuffing) (cut : ℕ) → stuffing ≡ stuffing_of general → old.faults ≡ 0
    → CutsAtFault stuffing old new read cut → CutsAtRead (stuffing_of general) read (nat_lt 0 new.faults) cut
read-fault general old new read stuffing cut stuffing_is none cuts =
    let C : model.Stuffing → Type 0 = λ s. cut ≡ length (list_at_fault s read).cells in
    record {
      did_fail = ap (λ (n : ℕ). nat_lt 0 n) (one-fault old new read none cuts.failed);
      in_sync = cuts.in_sync;
      cut_is = subst C stuffing_is cuts.cut_is;
    }

-- what may be read with a buffer may be read with a greater one
may_read-wider : (buffer wider cut bytes : ℕ) → buffer ≤ wider → MayRead buffer cut bytes → MayRead wider cut bytes
may_read-wider buffer wider cut bytes le (inl few) = inl (omega arith)
may_read-wider buffer wider cut bytes le (inr far) = inr (let a = far.0 in omega arith, far.1)

-- a size is within what the option allows
pub size-within : (given : Option ℕ) (default size : ℕ) → IsSize given default size → size ≤ unwrap_or given default
size-within None default size is = is.1
size-within (Some n) default size is = omega arith

-- a file that a run read: `first` and `last` are its own source before and after the run, `old` and `new` that of its packets
reads-file : (general : GeneralConf) (form : Form) (resync : Bool) (kept : Option KeptGaps) (file : List ℕ) (d made next : DeskView) (first old new last : SourceView) (stuffing : model.Stuffing) (buffer cut : ℕ) (why : Cause)
    → stuffing ≡ stuffing_of general → buffer ≤ most_buffer general → LeftTold d.files first file → first.faults ≡ 0 → old ≡ packets_view resync form first
    → EndsAs new last kept → made.closed_in ≡ d.closed_in → next.closed_in ≡ with_input made.closed_in last
    → ReadsSource stuffing buffer old new cut why → ReadsFile general form resync file d next cut why
reads-file general form resync kept file d made next first old new last stuffing buffer cut why stuffing_is buffer_within told none takes through same is run =
    let own : OwnRead d.files form resync file run.read last = own-read d.files form resync file run.read first old new last kept told takes run.source through in
    let fresh : old.faults ≡ 0 = ap (λ (s : SourceView). s.faults) takes ∙ view-faults resync form first ∙ none in
    record {
      read = own.read;
      rest = own.rest;
      failed = nat_lt 0 last.faults;
      bytes = own.bytes;
      closed = is ∙ with_input-is d.files made.closed_in last own.rest own.left
          ∙ ap (λ (o : Option (List ClosedInput)). closed_with d.files o (record { left = length own.rest; failed = nat_lt 0 last.faults })) same;
      taken = run.read;
      taken_are = own.taken;
      within = may_read-wider buffer (most_buffer general) cut (length run.read) buffer_within run.within;
      at_fault = λ is_fault. subst (λ (n : ℕ). CutsAtRead (stuffing_of general) run.read (nat_lt 0 n) cut) (ends-faults new last kept through)
          (read-fault general old new run.read stuffing cut stuffing_is fresh (run.at_fault is_fault));
    }

-- what a run reads of the input that was opened for it
pub reads-to : {S : Type 0} (seen inner : S → SourceView) (d made next : DeskView) (files : List (List ℕ × List ℕ)) (general : GeneralConf) (conf : InputConf) (old new : InputPart S) (kept : Option KeptGaps) (stuffing : model.Stuffing) (buffer cut : ℕ) (why : Cause)
    → stuffing ≡ stuffing_of general → buffer ≤ most_buffer general → IfSome d.files (λ t. files ≡ t) → OpensInput seen inner d conf old → IsThrough seen inner new kept → made.closed_in ≡ d.closed_in
    → next.closed_in ≡ (input_closed_as inner made new).closed_in → LeftInput seen stuffing buffer old new cut why → ReadsTo general conf files d next cut why
reads-to seen inner d made next files general (input.File name form resync) (Stream first) (Stream now) kept stuffing buffer cut why stuffing_is buffer_within told opens through same is left =
    reads-file general form resync kept (file_of files name) d made next (inner first) (seen first) (seen now) (inner now) stuffing buffer cut why stuffing_is buffer_within
    (opens-left (inner first) d files name told opens.0) (ap (λ (s : SourceView). s.faults) opens.0) opens.1 through same is left
reads-to seen inner d made next files general (input.Null count) (Nulls old) (Nulls new) kept stuffing buffer cut why stuffing_is buffer_within told opens through same is left = is ∙ same
reads-to seen inner d made next files general (input.File name form resync) (Nulls old) new kept stuffing buffer cut why stuffing_is buffer_within told opens through same is left = absurd opens
reads-to seen inner d made next files general (input.File name form resync) (Stream first) (Nulls new) kept stuffing buffer cut why stuffing_is buffer_within told opens through same is left = absurd left
reads-to seen inner d made next files general (input.Null count) (Stream first) new kept stuffing buffer cut why stuffing_is buffer_within told opens through same is left = absurd opens
reads-to seen inner d made next files general (input.Null count) (Nulls old) (Stream now) kept stuffing buffer cut why stuffing_is buffer_within told opens through same is left = absurd left
reads-to seen inner d made next files general (input.File name form resync) (Generated old packets) new kept stuffing buffer cut why stuffing_is buffer_within told opens through same is left = absurd opens
reads-to seen inner d made next files general (input.File name form resync) (Stream first) (Generated new packets) kept stuffing buffer cut why stuffing_is buffer_within told opens through same is left = absurd left
reads-to seen inner d made next files general (input.Null count) (Generated old packets) new kept stuffing buffer cut why stuffing_is buffer_within told opens through same is left = absurd opens
reads-to seen inner d made next files general (input.Null count) (Nulls old) (Generated new packets) kept stuffing buffer cut why stuffing_is buffer_within told opens through same is left = absurd left
reads-to seen inner d made next files general (input.TestGen seed count) (Stream first) new kept stuffing buffer cut why stuffing_is buffer_within told opens through same is left = absurd opens
reads-to seen inner d made next files general (input.TestGen seed count) (Nulls old) new kept stuffing buffer cut why stuffing_is buffer_within told opens through same is left = absurd opens
reads-to seen inner d made next files general (input.TestGen seed count) (Generated old packets) (Stream now) kept stuffing buffer cut why stuffing_is buffer_within told opens through same is left = absurd left
reads-to seen inner d made next files general (input.TestGen seed count) (Generated old packets) (Nulls now) kept stuffing buffer cut why stuffing_is buffer_within told opens through same is left = absurd left
reads-to seen inner d made next files general (input.TestGen seed count) (Generated old packets) (Generated new as_many) kept stuffing buffer cut why stuffing_is buffer_within told opens through same is left = is ∙ same

-- a read fails only of an input that was opened by a name
pub read-named : {S : Type 0} (seen inner : S → SourceView) (d : DeskView) (conf : InputConf) (old new : InputPart S) (stuffing : model.Stuffing) (buffer cut : ℕ) (why : Cause)
    → OpensInput seen inner d conf old → LeftInput seen stuffing buffer old new cut why → why ≡ Input ReadFault → IsSome (input_name conf)
read-named seen inner d (input.File name form resync) old new stuffing buffer cut why opens left is = refl
read-named seen inner d (input.Null count) (Nulls old) (Nulls new) stuffing buffer cut why opens left is = absurd (left is)
read-named seen inner d (input.Null count) (Nulls old) (Stream now) stuffing buffer cut why opens left is = absurd left
read-named seen inner d (input.Null count) (Stream first) new stuffing buffer cut why opens left is = absurd opens
read-named seen inner d (input.Null count) (Generated old packets) new stuffing buffer cut why opens left is = absurd opens
read-named seen inner d (input.Null count) (Nulls old) (Generated new packets) stuffing buffer cut why opens left is = absurd left
read-named seen inner d (input.TestGen seed count) (Stream first) new stuffing buffer cut why opens left is = absurd opens
read-named seen inner d (input.TestGen seed count) (Nulls old) new stuffing buffer cut why opens left is = absurd opens
read-named seen inner d (input.TestGen seed count) (Generated old packets) (Stream now) stuffing buffer cut why opens left is = absurd left
read-named seen inner d (input.TestGen seed count) (Generated old packets) (Nulls now) stuffing buffer cut why opens left is = absurd left
read-named seen inner d (input.TestGen seed count) (Generated old packets) (Generated new same) stuffing buffer cut why opens left is = absurd (left is)
