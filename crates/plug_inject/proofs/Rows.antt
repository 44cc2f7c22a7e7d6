-- Worked rows of `inject`, computed on the definitions. Packets of four bytes are enough here.
use Rattle.std.proofs.Common.{◌≡◌, ℕ, List, [], ◌∷◌, replicate, false, None, Some, refl}
use Rattle.ts_bit_rows.specs.BitRow.{bit_of, field}
use Rattle.ts_packet.specs.Cells.{Live, Dropped, live_packets}
use Rattle.ts_packet.specs.Header.{with_counter}
use Rattle.ts_packetize.specs.Packets.{packets_of}
use Rattle.ts_packetize.specs.Packing.{pack}
use Rattle.chain_model.specs.Apply.{apply}
use Rattle.plug_inject.specs.Contents.{Contents, cycle, groups}
use Rattle.plug_inject.specs.Schedule.{given_after, last_begun, turns_from}
use Rattle.plug_inject.specs.InjectRule.{Injection, inject_rule, injecting_rule, kept_before, put_among, replaced_among, target_of}
use Rattle.plug_inject.specs.InjectedPlaces.{places_after}
use Rattle.plug_inject.specs.declared.inject_conf.InjectMode.{InjectMode}
use Rattle.plug_inject.specs.declared.inject_conf.InjectMode.TheVariants.{Replace, InterPacket}

-- a null packet, another packet on PID 8191, and one on PID 257
abbrev null : List ℕ
null = 0x47 ∷ 0x1F ∷ 0xFF ∷ 0x10 ∷ []

abbrev other_null : List ℕ
other_null = 0x47 ∷ 0x5F ∷ 0xFF ∷ 0xD7 ∷ []

abbrev on_257 : List ℕ
on_257 = 0x47 ∷ 0x01 ∷ 0x01 ∷ 0x10 ∷ []

-- a packet of tables on PID 256, with a counter, and a second one
abbrev table : ℕ → List ℕ
table counter = 0x47 ∷ 0x41 ∷ 0x00 ∷ counter ∷ []

abbrev second : ℕ → List ℕ
second counter = 0x47 ∷ 0x01 ∷ 0x00 ∷ counter ∷ []

-- `inject --pid 256` with these packets
abbrev how : InjectMode → List (List ℕ) → Injection
how mode contents = record { contents = cycle contents; target = target_of mode 256; kept = kept_before mode; counted = None }

-- seven null packets with `--inter-packet 3`: numbers 0, 3 and 6 are replaced, with the counters 0, 1 and 2
each-third : apply (injecting_rule (how (InterPacket 3) (table 0x10 ∷ [])))
    (Live null 0 ∷ Live null 0 ∷ Live null 0 ∷ Live null 0 ∷ Live null 0 ∷ Live null 0 ∷ Live null 0 ∷ [])
    ≡ record { cells = Live (table 0x10) 0 ∷ Live null 0 ∷ Live null 0 ∷ Live (table 0x11) 0 ∷ Live null 0 ∷ Live null 0 ∷ Live (table 0x12) 0 ∷ []; ended = None }
unfolding field bit_of with_counter replaced_among
each-third = refl

each-third_places : places_after (how (InterPacket 3) (table 0x10 ∷ [])) [] (replicate 7 null) ≡ 0 ∷ 3 ∷ 6 ∷ []
unfolding field bit_of replaced_among
each-third_places = refl

-- with `--inter-packet 1` every null packet is, whatever its bytes, and the labels stay
each-one : apply (injecting_rule (how (InterPacket 1) (table 0x10 ∷ []))) (Live null 0 ∷ Live other_null 4 ∷ Live on_257 0 ∷ Live null 0 ∷ [])
    ≡ record { cells = Live (table 0x10) 0 ∷ Live (table 0x11) 4 ∷ Live on_257 0 ∷ Live (table 0x12) 0 ∷ []; ended = None }
unfolding field bit_of with_counter replaced_among
each-one = refl

-- a live packet between them counts for the distance, and a dropped one does not
live-counts : apply (injecting_rule (how (InterPacket 3) (table 0x10 ∷ [])))
    (Live on_257 0 ∷ Live null 0 ∷ Live on_257 0 ∷ Live null 0 ∷ Live null 0 ∷ Dropped ∷ Live null 0 ∷ Dropped ∷ Live null 0 ∷ Live null 0 ∷ [])
    ≡ record { cells = Live on_257 0 ∷ Live (table 0x10) 0 ∷ Live on_257 0 ∷ Live null 0 ∷ Live (table 0x11) 0 ∷ Dropped ∷ Live null 0 ∷ Dropped ∷ Live null 0 ∷ Live (table 0x12) 0 ∷ []; ended = None }
unfolding field bit_of with_counter replaced_among
live-counts = refl

-- `--replace` with two packets of tables: each packet on the PID is replaced by the next of them
on-pid : apply (injecting_rule (how Replace (table 0x1F ∷ second 0x1F ∷ [])))
    (Live null 0 ∷ Live (table 0x15) 0 ∷ Live on_257 0 ∷ Live (second 0x15) 0 ∷ Live (second 0x15) 0 ∷ [])
    ≡ record { cells = Live null 0 ∷ Live (table 0x10) 0 ∷ Live on_257 0 ∷ Live (second 0x11) 0 ∷ Live (table 0x12) 0 ∷ []; ended = None }
unfolding field bit_of with_counter replaced_among
on-pid = refl

-- the numbers are those of live packets only
on-pid_places : places_after (how Replace (table 0x1F ∷ [])) [] (live_packets (Dropped ∷ Live on_257 0 ∷ Dropped ∷ Live (table 0x15) 0 ∷ Live (second 0x15) 0 ∷ [])) ≡ 1 ∷ 2 ∷ []
unfolding field bit_of replaced_among
on-pid_places = refl

-- without sections nothing is replaced
no-sections : apply (inject_rule (record { file = []; pid = 256; mode = Replace; fix_counters = false; every = [] }) []) (Live null 0 ∷ Live (table 0x15) 0 ∷ Live (second 0x15) 0 ∷ [])
    ≡ record { cells = Live null 0 ∷ Live (table 0x15) 0 ∷ Live (second 0x15) 0 ∷ []; ended = None }
unfolding field bit_of with_counter replaced_among packets_of pack
no-sections = refl

no-sections_between : apply (inject_rule (record { file = []; pid = 32; mode = InterPacket 1; fix_counters = false; every = [] }) []) (Live null 0 ∷ Live null 0 ∷ [])
    ≡ record { cells = Live null 0 ∷ Live null 0 ∷ []; ended = None }
unfolding field bit_of with_counter replaced_among packets_of pack
no-sections_between = refl

-- ---- `--every`

-- packets of sections of other tables
abbrev third : ℕ → List ℕ
third counter = 0x47 ∷ 0x42 ∷ 0x00 ∷ counter ∷ []

-- `--every A/2,B/3` with a section of A of one packet, and one of B of two, and no others
abbrev two-groups : Contents
two-groups = groups (record { distance = 2; sections = (table 0x10 ∷ []) ∷ [] } ∷ record { distance = 3; sections = (second 0x10 ∷ second 0x11 ∷ []) ∷ [] } ∷ [])

-- A begins packets 0, 3, 6: with packet 2 section B goes on, and is not cut; where none may come, the one that was begun
-- first does
by-pairs : live_packets (apply (injecting_rule (record { contents = two-groups; target = 256; kept = 0; counted = None }))
    (Live (second 0) 0 ∷ Live (second 0) 0 ∷ Live (second 0) 0 ∷ Live (second 0) 0 ∷ Live (second 0) 0 ∷ [])).cells
    ≡ table 0x10 ∷ second 0x11 ∷ second 0x12 ∷ table 0x13 ∷ second 0x14 ∷ []
unfolding field bit_of with_counter replaced_among given_after last_begun turns_from put_among
by-pairs = refl

-- a pair every second packet, and in between two other tables in turn
in-between : live_packets (apply (injecting_rule (record {
  contents = groups (record { distance = 2; sections = (table 0x10 ∷ []) ∷ [] } ∷ record { distance = 1; sections = (second 0x10 ∷ []) ∷ (third 0x10 ∷ []) ∷ [] } ∷ []);
  target = 256;
  kept = 0;
  counted = None;
}))
    (Live (second 0) 0 ∷ Live (second 0) 0 ∷ Live (second 0) 0 ∷ Live (second 0) 0 ∷ Live (second 0) 0 ∷ [])).cells
    ≡ table 0x10 ∷ second 0x11 ∷ table 0x12 ∷ third 0x13 ∷ table 0x14 ∷ []
unfolding field bit_of with_counter replaced_among given_after last_begun turns_from put_among
in-between = refl

-- ---- `--fix-counters`

-- packets without a payload, and with one
abbrev without : ℕ → List ℕ
without counter = 0x47 ∷ 0x01 ∷ 0x00 ∷ counter ∷ []

-- those that are put in, and those that were there: 0, 1, 1 for the one without a payload, 2
all-counted : live_packets (apply (injecting_rule (record { contents = cycle (table 0x10 ∷ []); target = 8191; kept = 1; counted = Some 256 }))
    (Live null 0 ∷ Live (second 0x17) 0 ∷ Live on_257 0 ∷ Live (without 0x23) 0 ∷ Live null 0 ∷ [])).cells
    ≡ table 0x10 ∷ second 0x11 ∷ on_257 ∷ without 0x21 ∷ table 0x12 ∷ []
unfolding field bit_of with_counter replaced_among put_among
all-counted = refl
