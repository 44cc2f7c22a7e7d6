-- Packets that do not count for the sections of a PID.
use Rattle.std.proofs.Common.{◌≡◌, ℕ, ◌==◌, ◌&&◌, Bool, true, false, List, [], ◌∷◌, ◌++◌, Some, None, refl, sym, ◌∙◌, ap, append-nil, subst}
use Rattle.std.specs.Prelude.{if◌then◌else◌}
use Rattle.std.specs.List.{cons_option}
use Rattle.ts_packet.specs.Header.{pid_of}
use Rattle.ts_demux.specs.CountedPackets.{counts, counted, counted_packets, part_of_packet}
use Rattle.ts_demux.specs.SectionsOfPid.{sections_of_pid}
use Rattle.ts_demux.specs.SectionsOfParts.{sections_of_parts}
use Rattle.ts_demux.specs.Tables.{tables_of}
use Rattle.ts_demux.specs.TablesOn.{Completes, packets_on, tables_on}
use Rattle.ts_demux.specs.AssemblyState.{AssemblyState}
use Rattle.ts_demux.specs.DemuxState.{DemuxState}
use Rattle.ts_demux.specs.PidTables.{Holds}

no_part : (pid : ℕ) (p : List ℕ) → counts pid p ≡ false → counted pid p ≡ None
unfolding counted
no_part pid p e = ap (λ b. if b then Some (part_of_packet p) else None) e

-- the parts are those without the packet, wherever it stands
counted-without : (pid : ℕ) (packets : List (List ℕ)) (p : List ℕ) (rest : List (List ℕ)) → counts pid p ≡ false → counted_packets pid ((packets ++ p ∷ []) ++ rest) ≡ counted_packets pid (packets ++ rest)
counted-without pid [] p rest e = ap (λ o. cons_option o (counted_packets pid rest)) (no_part pid p e)
counted-without pid (x ∷ xs) p rest e = ap (λ ps. cons_option (counted pid x) ps) (counted-without pid xs p rest e)

sections-without : (pid : ℕ) (packets : List (List ℕ)) (p : List ℕ) → counts pid p ≡ false → sections_of_pid pid (packets ++ p ∷ []) ≡ sections_of_pid pid packets
sections-without pid packets p e =
    ap (sections_of_pid pid) (sym (append-nil (packets ++ p ∷ [])))
    ∙ ap sections_of_parts (counted-without pid packets p [] e)
    ∙ ap (sections_of_pid pid) (append-nil packets)

pub completes-none : (pid : ℕ) (taken : List (List ℕ)) (p : List ℕ) → counts pid p ≡ false → Completes pid taken p []
completes-none pid taken p e = ap tables_of (sections-without pid taken p e) ∙ sym (append-nil (tables_on pid taken))

-- what is kept stands for the packet too
pub holds-uncounted :
    (demux : DemuxState) (assembly : AssemblyState) (pid : ℕ) (taken : List (List ℕ)) (p : List ℕ) → counts pid p ≡ false →
    Holds demux assembly pid taken (sections_of_pid pid taken) → Holds demux assembly pid (taken ++ p ∷ []) (sections_of_pid pid (taken ++ p ∷ []))
holds-uncounted demux assembly pid taken p e h =
    let same = sections-without pid taken p e in
    subst (Holds demux assembly pid (taken ++ p ∷ [])) (sym same)
    (record {
      demuxed = record {
        same_pid = h.demuxed.same_pid;
        working = h.demuxed.working;
        sections = same ∙ h.demuxed.sections;
        to_come = λ rest. ap sections_of_parts (counted-without pid taken p rest e) ∙ h.demuxed.to_come rest;
      };
      assembled = h.assembled;
    })

not_both : (a b : Bool) → a ≡ false → (a && b) ≡ false
not_both true b e = cc
not_both false b e = refl

-- the first packet, where those after it are known
first-counted :
    (pid : ℕ) (x : List ℕ) (xs : List (List ℕ)) → counted_packets pid (packets_on pid xs) ≡ counted_packets pid xs → (b : Bool) → (pid_of x == pid) ≡ b →
    counted_packets pid (if b then x ∷ packets_on pid xs else packets_on pid xs) ≡ cons_option (counted pid x) (counted_packets pid xs)
first-counted pid x xs same true e = ap (λ ps. cons_option (counted pid x) ps) same
first-counted pid x xs same false e = same ∙ sym (ap (λ o. cons_option o (counted_packets pid xs)) (no_part pid x (not_both (pid_of x == pid) _ e)))

counted-on : (pid : ℕ) (packets : List (List ℕ)) → counted_packets pid (packets_on pid packets) ≡ counted_packets pid packets
counted-on pid [] = refl
counted-on pid (x ∷ xs) = first-counted pid x xs (counted-on pid xs) (pid_of x == pid) refl

pub same-tables : (pid : ℕ) (packets : List (List ℕ)) → tables_on pid (packets_on pid packets) ≡ tables_on pid packets
same-tables pid packets = ap (λ ps. tables_of (sections_of_parts ps)) (counted-on pid packets)
