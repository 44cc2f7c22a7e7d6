-- A packet fed: the sections that are complete then, and those to come.
use Rattle.std.proofs.Common.{◌≡◌, ℕ, ◌+◌, Bool, true, false, List, [], ◌∷◌, ◌++◌, length, Option, Some, None, refl, sym, ◌∙◌, ap, arith, append_assoc, append-nil, length-append, subst}
use Rattle.std.specs.List.{cons_option}
use Rattle.std.specs.Option.{option_map, option_to_list}
use Rattle.std.proofs.lemmas.List.{append_cancel_left}
use Rattle.ts_demux.proofs.Choice.{if_true, if_false}
use Rattle.monitor_crcs.proofs.Remembering.{told-remembered}
use Rattle.monitor_crcs.proofs.Little.{told_after-nothing}
use Rattle.ts_packet.specs.Header.{counter_of, unit_start_of}
use Rattle.ts_packet.specs.Payload.{payload_of}
use Rattle.ts_demux.specs.Part.{Part}
use Rattle.ts_demux.specs.CountedPackets.{counts, part_of_packet, counted, counted_packets}
use Rattle.monitor_crcs.specs.WrongCrcs.{told_of_parts, told_of_pid}
use Rattle.monitor_crcs.specs.ReaderState.{ReaderState, StandsFor, TakesIn}
use Rattle.monitor_crcs.specs.Reader.{part_of, remembered_by, IsAtRest, Takes, told_after}
use Rattle.monitor_crcs.specs.declared.reader.PieceReader.{PieceReader}

-- nothing comes of a remembered part alone
remembered_nothing :
    (last : Option ℕ) (r : PieceReader) → IsAtRest r →
    told_of_parts (option_to_list (option_map (part_of r.is_open r.unfinished.items) last) ++ []) ≡ []
unfolding told_of_parts
remembered_nothing None r rest = refl
remembered_nothing (Some counter) r rest =
    told-remembered r.is_open r.unfinished.items counter [] ∙ append-nil (told_after r.is_open r.unfinished.items []) ∙ told_after-nothing r.is_open r.unfinished.items rest.little.not_whole

pub nothing_remembered : (r : PieceReader) → IsAtRest r → told_of_parts (option_to_list (remembered_by r) ++ []) ≡ []
nothing_remembered r rest = remembered_nothing r.last r rest

pub not_counted : (pid : ℕ) (row : List ℕ) → counts pid row ≡ false → counted pid row ≡ None
unfolding counted
not_counted pid row e = if_false (counts pid row) (Some (part_of_packet row)) None e

pub is_counted : (pid : ℕ) (row : List ℕ) → counts pid row ≡ true → counted pid row ≡ Some (part_of_packet row)
unfolding counted
is_counted pid row e = if_true (counts pid row) (Some (part_of_packet row)) None e

parts_on : (pid : ℕ) (row : List ℕ) (rest : List (List ℕ)) (o : Option Part) → counted pid row ≡ o → counted_packets pid (row ∷ rest) ≡ option_to_list o ++ counted_packets pid rest
parts_on pid row rest None e = ap (λ t. cons_option t (counted_packets pid rest)) e
parts_on pid row rest (Some p) e = ap (λ t. cons_option t (counted_packets pid rest)) e

pub stands-new : (demux : ReaderState) (pid : ℕ) → demux.pid ≡ pid → demux.failed ≡ false → demux.waiting ≡ [] → demux.remembered ≡ None → StandsFor demux pid [] []
unfolding told_of_parts
stands-new demux pid p f w r =
    record {
      same_pid = p;
      working = f;
      told = sym w;
      to_come = λ rest.
          ap (λ t. t ++ told_of_parts (counted_packets pid rest)) (sym w)
          ∙ ap (λ t. demux.waiting ++ told_of_parts (option_to_list t ++ counted_packets pid rest)) (sym r);
    }

-- what stands for packets stands for one more, where each continuation agrees
stands-step :
    (old new : ReaderState) (row : List ℕ) (o : Option Part) →
    new.pid ≡ old.pid → new.failed ≡ false → counted old.pid row ≡ o →
    ((rest : List Part) →
    old.waiting ++ told_of_parts (option_to_list old.remembered ++ (option_to_list o ++ rest))
    ≡ new.waiting ++ told_of_parts (option_to_list new.remembered ++ rest)) →
    told_of_parts (option_to_list new.remembered ++ []) ≡ [] →
    (pid : ℕ) (fed : List (List ℕ)) (given : List ℕ) → StandsFor old pid fed given → StandsFor new pid (fed ++ row ∷ []) given
stands-step old new row o p f e step nothing pid fed given s =
    let at_pid : counted pid row ≡ o = ap (λ n. counted n row) (sym s.same_pid) ∙ e in
    let come : (rest : List (List ℕ)) →
    told_of_pid pid ((fed ++ row ∷ []) ++ rest) ≡ given ++ new.waiting ++ told_of_parts (option_to_list new.remembered ++ counted_packets pid rest) =
    λ rest.
    (let left = counted_packets pid rest in
    ap (told_of_pid pid) (append_assoc fed (row ∷ []) rest)
    ∙ s.to_come (row ∷ rest)
    ∙ ap (λ t. given ++ old.waiting ++ told_of_parts (option_to_list old.remembered ++ t)) (parts_on pid row rest o at_pid)
    ∙ append_assoc given old.waiting (told_of_parts (option_to_list old.remembered ++ (option_to_list o ++ left)))
    ∙ ap (λ t. given ++ t) (step left)
    ∙ sym (append_assoc given new.waiting (told_of_parts (option_to_list new.remembered ++ left)))) in
    record {
      same_pid = p ∙ s.same_pid;
      working = f;
      told =
          ap (told_of_pid pid) (sym (append-nil (fed ++ row ∷ [])))
          ∙ come []
          ∙ ap (λ t. given ++ new.waiting ++ t) nothing
          ∙ append-nil (given ++ new.waiting);
      to_come = come;
    }

nothing_from_stands :
    (demux : ReaderState) (pid : ℕ) (fed : List (List ℕ)) (given : List ℕ) → StandsFor demux pid fed given →
    told_of_parts (option_to_list demux.remembered ++ []) ≡ []
nothing_from_stands demux pid fed given s =
    append_cancel_left (given ++ demux.waiting) (told_of_parts (option_to_list demux.remembered ++ [])) []
    (sym (s.to_come []) ∙ ap (told_of_pid pid) (append-nil fed) ∙ s.told ∙ sym (append-nil (given ++ demux.waiting)))

growth :
    (old new : ReaderState) (pid n : ℕ) (fed more : List (List ℕ)) (given : List ℕ) → StandsFor old pid fed given → StandsFor new pid more given →
    length new.waiting ≡ length old.waiting + n → length (told_of_pid pid more) ≡ length (told_of_pid pid fed) + n
growth old new pid n fed more given s t e =
    omega (arith, ap length s.told, ap length t.told, length-append given old.waiting, length-append given new.waiting)

pub takes_in-uncounted : (demux : ReaderState) (row : List ℕ) → counts demux.pid row ≡ false → TakesIn demux demux row 0
takes_in-uncounted demux row e =
    let stands : (pid : ℕ) (fed : List (List ℕ)) (given : List ℕ) → StandsFor demux pid fed given → StandsFor demux pid (fed ++ row ∷ []) given =
    λ pid fed given s. stands-step demux demux row None refl s.working (not_counted demux.pid row e) (λ rest. refl) (nothing_from_stands demux pid fed given s) pid fed given s in
    record {
      stands = stands;
      grown = λ pid fed given s. growth demux demux pid 0 fed (fed ++ row ∷ []) given s (stands pid fed given s) (omega arith);
      waits = omega arith;
    }

-- what a demultiplexer with these parts is seen as
abbrev pub seen : ℕ → PieceReader → List ℕ → Bool → ReaderState
seen pid reader waiting failed = record { pid = pid; remembered = remembered_by reader; waiting = waiting; failed = failed }

pub takes_in-counted :
    (pid : ℕ) (failed : Bool) (old new : PieceReader) (before after : List ℕ) (row : List ℕ) (n : ℕ) →
    failed ≡ false → counts pid row ≡ true → Takes old new (part_of_packet row) before after → IsAtRest new →
    length after ≡ length before + n → TakesIn (seen pid old before failed) (seen pid new after failed) row n
takes_in-counted pid failed old new before after row n f e takes rest l =
    let stands : (q : ℕ) (fed : List (List ℕ)) (given : List ℕ) → StandsFor (seen pid old before failed) q fed given → StandsFor (seen pid new after failed) q (fed ++ row ∷ []) given =
    λ q fed given s. stands-step (seen pid old before failed) (seen pid new after failed) row (Some (part_of_packet row)) refl f (is_counted pid row e) takes.told (nothing_remembered new rest) q fed given s in
    record {
      stands = stands;
      grown = λ q fed given s. growth (seen pid old before failed) (seen pid new after failed) q n fed (fed ++ row ∷ []) given s (stands q fed given s) l;
      waits = l;
    }

part_is :
    (row : List ℕ) (counter : ℕ) (unit_start : Bool) (payload : List ℕ) →
    counter ≡ counter_of row → unit_start ≡ unit_start_of row → payload ≡ payload_of row →
    (let p : Part = record { counter = counter; unit_start = unit_start; payload = payload } in p) ≡ part_of_packet row
part_is row counter unit_start payload c u p = cc

pub takes-packet :
    (old new : PieceReader) (row : List ℕ) (counter : ℕ) (unit_start : Bool) (payload : List ℕ) (before after : List ℕ) →
    counter ≡ counter_of row → unit_start ≡ unit_start_of row → payload ≡ payload_of row →
    Takes old new (record { counter = counter; unit_start = unit_start; payload = payload }) before after →
    Takes old new (part_of_packet row) before after
takes-packet old new row counter unit_start payload before after c u p h =
    subst (λ part. Takes old new part before after) (part_is row counter unit_start payload c u p) h
