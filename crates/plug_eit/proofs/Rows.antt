-- Worked rows: texts, starts, descriptors and sections, computed on the definitions.
use Rattle.std.proofs.Common.{◌≡◌, ℕ, pos, negsuc, true, List, [], ◌∷◌, None, Some, refl}
use Rattle.ts_bit_rows.specs.BitRow.{bit_of, field}
use Rattle.ts_eit.specs.EventTimes.{pair_bits, time_bits}
use Rattle.named_services.specs.declared.service_word.ServiceWord.TheVariants.{Name, Number}
use Rattle.plug_eit.specs.EitEdit.{edited_section}
use Rattle.plug_eit.specs.EventStart.{later_start}
use Rattle.plug_eit.specs.ShortEventChange.{fitted}
use Rattle.plug_eit.specs.TextCut.{cut_text, end_from}
use Rattle.plug_eit.specs.declared.eit_conf.EitConf.{EitConf}

-- a text that is in the room stays; a longer one of table 00 is cut, and its accent goes with its letter
in-room : cut_text 3 (0x41 ∷ 0x42 ∷ 0x43 ∷ []) ≡ 0x41 ∷ 0x42 ∷ 0x43 ∷ []
unfolding cut_text end_from
in-room = refl

cut-letters : cut_text 2 (0x41 ∷ 0x42 ∷ 0x43 ∷ []) ≡ 0x41 ∷ 0x42 ∷ []
unfolding cut_text end_from
cut-letters = refl

cut-accent : cut_text 2 (0x41 ∷ 0xC8 ∷ 0x75 ∷ []) ≡ 0x41 ∷ []
unfolding cut_text end_from
cut-accent = refl

-- UTF-8 `Aü` in three bytes behind its mark: the second character has no room in 3; in 1 nothing stays
cut-utf8 : cut_text 3 (0x15 ∷ 0x41 ∷ 0xC3 ∷ 0xBC ∷ []) ≡ 0x15 ∷ 0x41 ∷ []
unfolding cut_text end_from
cut-utf8 = refl

no-character : cut_text 1 (0x15 ∷ 0x41 ∷ 0xC3 ∷ 0xBC ∷ []) ≡ []
unfolding cut_text end_from
no-character = refl

-- of two bytes each; a mark of three bytes; one whose characters are not known
cut-pairs : cut_text 4 (0x11 ∷ 0x00 ∷ 0x41 ∷ 0x00 ∷ 0x42 ∷ []) ≡ 0x11 ∷ 0x00 ∷ 0x41 ∷ []
unfolding cut_text end_from
cut-pairs = refl

long-mark : cut_text 4 (0x10 ∷ 0x00 ∷ 0x02 ∷ 0x41 ∷ 0x42 ∷ []) ≡ 0x10 ∷ 0x00 ∷ 0x02 ∷ 0x41 ∷ []
unfolding cut_text end_from
long-mark = refl

not-known : cut_text 3 (0x1F ∷ 0x01 ∷ 0x41 ∷ 0x42 ∷ []) ≡ []
unfolding cut_text end_from
not-known = refl

-- a longer name takes the text's room; one that is too long alone is cut, and the text goes
name-first : fitted 4 (0x41 ∷ 0x42 ∷ 0x43 ∷ []) (0x61 ∷ 0x62 ∷ []) ≡ record { name = 0x41 ∷ 0x42 ∷ 0x43 ∷ []; text = 0x61 ∷ [] }
unfolding cut_text end_from
name-first = refl

name-alone : fitted 2 (0x41 ∷ 0x42 ∷ 0x43 ∷ []) (0x61 ∷ 0x62 ∷ []) ≡ record { name = 0x41 ∷ 0x42 ∷ []; text = [] }
unfolding cut_text end_from
name-alone = refl

-- 1993-10-13 23:30:00 an hour later is the next day, at 00:30:00, and the other way
over-midnight : later_start (pos 3600) 0xC079233000 ≡ 0xC07A003000
unfolding later_start time_bits pair_bits
over-midnight = refl

back-over-midnight : later_start (negsuc 3599) 0xC07A003000 ≡ 0xC079233000
unfolding later_start time_bits pair_bits
back-over-midnight = refl

-- an undefined start stays, and so does one that would leave the first day
undefined : later_start (pos 3600) 0xFFFFFFFFFF ≡ 0xFFFFFFFFFF
unfolding later_start time_bits pair_bits
undefined = refl

before-the-first : later_start (negsuc 0) 0x0000000000 ≡ 0x0000000000
unfolding later_start time_bits pair_bits
before-the-first = refl

-- settings that remove
abbrev removing : EitConf
removing = record { service = Number 7; event = None; name = None; text = None; shift = None; running_status = None; free_ca_mode = None; remove = true }

-- a section of service 7 that has no more than its head, a part of its body and four more bytes: it does not read
abbrev short : List ℕ
short = 0x4E ∷ 0xF0 ∷ 0x0B ∷ 0x00 ∷ 0x07 ∷ 0xC1 ∷ 0x00 ∷ 0x00 ∷ 0x00 ∷ 0x01 ∷ 0x00 ∷ 0x00 ∷ 0x00 ∷ 0x00 ∷ []

-- while no service has the name, all sections stay
no-service : edited_section (record removing { service = Name (0x41 ∷ []) }) None short ≡ Some short
unfolding edited_section
no-service = refl

-- sections of the service go, of the present events and of the schedule; those of other services and tables stay
present-goes : edited_section removing (Some 7) short ≡ None
unfolding edited_section field bit_of
present-goes = refl

schedule-goes : edited_section removing (Some 7) (0x5F ∷ 0xF0 ∷ 0x09 ∷ 0x00 ∷ 0x07 ∷ 0xC1 ∷ []) ≡ None
unfolding edited_section field bit_of
schedule-goes = refl

another-service : edited_section removing (Some 7) (0x4E ∷ 0xF0 ∷ 0x09 ∷ 0x01 ∷ 0x07 ∷ 0xC1 ∷ []) ≡ Some (0x4E ∷ 0xF0 ∷ 0x09 ∷ 0x01 ∷ 0x07 ∷ 0xC1 ∷ [])
unfolding edited_section field bit_of
another-service = refl

another-stream : edited_section removing (Some 7) (0x4F ∷ 0xF0 ∷ 0x09 ∷ 0x00 ∷ 0x07 ∷ 0xC1 ∷ []) ≡ Some (0x4F ∷ 0xF0 ∷ 0x09 ∷ 0x00 ∷ 0x07 ∷ 0xC1 ∷ [])
unfolding edited_section field bit_of
another-stream = refl

schedule-of-another-stream : edited_section removing (Some 7) (0x60 ∷ 0xF0 ∷ 0x09 ∷ 0x00 ∷ 0x07 ∷ 0xC1 ∷ []) ≡ Some (0x60 ∷ 0xF0 ∷ 0x09 ∷ 0x00 ∷ 0x07 ∷ 0xC1 ∷ [])
unfolding edited_section field bit_of
schedule-of-another-stream = refl
