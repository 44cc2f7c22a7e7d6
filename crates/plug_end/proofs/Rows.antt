-- Worked rows of `until`, computed on the definitions. Packets have two bytes here.
use Rattle.std.proofs.Common.{◌≡◌, ℕ, List, [], ◌∷◌, None, Some, true, false, refl}
use Rattle.ts_bit_rows.specs.BitRow.{bit_of, field}
use Rattle.ts_packet.specs.declared.cell.Cell.{Cell}
use Rattle.ts_packet.specs.Cells.{Live, Dropped}
use Rattle.chain_model.specs.Apply.{apply, last_passed, stopped}
use Rattle.chain_model.specs.Joint.{agreement_of}
use Rattle.plug_end.specs.declared.until_conf.UntilConf.{UntilConf}
use Rattle.plug_end.specs.UntilRule.{until_rule}

-- a packet, and one with its unit start indicator
abbrev plain : List ℕ
plain = 0x47 ∷ 0x00 ∷ []

abbrev first : List ℕ
first = 0x47 ∷ 0x40 ∷ []

-- five packets, of which the second and the fourth have the indicator; a cell before them was dropped
abbrev cells : List Cell
cells = Dropped ∷ Live plain 0 ∷ Live first 0 ∷ Live plain 0 ∷ Live first 0 ∷ Live plain 0 ∷ []

-- `until --packets 3`: the third packet is the fourth cell, and the last one
abbrev by_packets : UntilConf
by_packets = record { packets = Some 3; bytes = None; unit_start_count = None; seconds = None; pcr_pid = None; exclude_last = false; joint_termination = false }

third-last : apply (until_rule by_packets) cells ≡ record { cells = Dropped ∷ Live plain 0 ∷ Live first 0 ∷ Live plain 0 ∷ []; ended = Some last_passed }
unfolding field bit_of
third-last = refl

-- with `--exclude-last` it is left out
third-left_out : apply (until_rule (record by_packets { exclude_last = true })) cells ≡ record { cells = Dropped ∷ Live plain 0 ∷ Live first 0 ∷ []; ended = Some stopped }
unfolding field bit_of
third-left_out = refl

-- a sixth packet never comes
never-reached : apply (until_rule (record by_packets { packets = Some 6 })) cells ≡ record { cells = cells; ended = None }
unfolding field bit_of
never-reached = refl

-- `until --bytes 376` is two packets, and 377 bytes are three
abbrev by_bytes : ℕ → UntilConf
by_bytes n = record { packets = None; bytes = Some n; unit_start_count = None; seconds = None; pcr_pid = None; exclude_last = false; joint_termination = false }

two-packets : (apply (until_rule (by_bytes 376)) cells).cells ≡ Dropped ∷ Live plain 0 ∷ Live first 0 ∷ []
unfolding field bit_of
two-packets = refl

one-byte-more : (apply (until_rule (by_bytes 377)) cells).cells ≡ Dropped ∷ Live plain 0 ∷ Live first 0 ∷ Live plain 0 ∷ []
unfolding field bit_of
one-byte-more = refl

-- `until --unit-start-count 2`: the fourth packet is the second one with the indicator
abbrev by_starts : UntilConf
by_starts = record { packets = None; bytes = None; unit_start_count = Some 2; seconds = None; pcr_pid = None; exclude_last = false; joint_termination = false }

second-start : apply (until_rule by_starts) cells ≡ record { cells = Dropped ∷ Live plain 0 ∷ Live first 0 ∷ Live plain 0 ∷ Live first 0 ∷ []; ended = Some last_passed }
unfolding field bit_of
second-start = refl

-- with `--joint-termination` all packets pass, and the plugin agrees after the cell of the third packet: the dropped
-- cell is a place and no packet
abbrev jointly : UntilConf
jointly = record by_packets { joint_termination = true }

all-passed : apply (until_rule jointly) cells ≡ record { cells = cells; ended = None }
unfolding field bit_of
all-passed = refl

third-agreed : agreement_of (until_rule jointly) cells ≡ Some 4
unfolding field bit_of
third-agreed = refl

starts-agreed : agreement_of (until_rule (record by_starts { joint_termination = true })) cells ≡ Some 5
unfolding field bit_of
starts-agreed = refl

-- without the option the plugin agrees nowhere, and so it does where the number is never reached
never-agreed : agreement_of (until_rule by_packets) cells ≡ None
unfolding field bit_of
never-agreed = refl

never-enough : agreement_of (until_rule (record jointly { packets = Some 6 })) cells ≡ None
unfolding field bit_of
never-enough = refl
